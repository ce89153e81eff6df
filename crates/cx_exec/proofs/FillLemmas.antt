-- MVC of the byte before, and XC of an operand with itself.
use Rattle.std.proofs.Common.{◌≡◌, ℕ, zero, suc, ◌+◌, ◌-◌, ◌^◌, ◌<◌, ◌≤◌, true, false, nat_lt, Some, None, Option, List, [], length, take, replicate, is_some, slice_index, refl, sym, ◌∙◌, arith}
use Rattle.std.specs.Int.Bits.{xor_self}
use Rattle.std.proofs.lemmas.List.{get_or-replicate, length-replicate, take-replicate}
use Rattle.std.proofs.lemmas.Bool.{le-ltb}
use Rattle.std.proofs.lemmas.Grind.{same_number_lists}
use Rattle.cx_storage.specs.Storage.{Storage, byte_at, span}
use Rattle.cx_storage.specs.Facts.Spans.{span_present, span_first}
use Rattle.cx_storage.specs.Address.{address_after, distance}
use Rattle.cx_exec.specs.Numbers.{number_of}
use Rattle.cx_exec.specs.Sequence.{content_at, byte_seen, stored_by}
use Rattle.cx_exec.specs.Strings.{moved_byte, xored_byte, MvcEffect}
use Rattle.cx_exec.specs.declared.machine.Updated.{Updated}
use Rattle.cx_exec.specs.Machine.{Machine}
use Rattle.cx_exec.specs.Outcome.{Outcome}
use Rattle.cx_exec.specs.Operands.{Stores}
use Rattle.cx_exec.proofs.SequenceLemmas.{stored_length, stored_none}
use Rattle.cx_exec.proofs.RepeatLemmas.{repeated_is_moved}
use Rattle.cx_exec.proofs.BlockLemmas.{if_present, outside_is_joined}

-- the first operand begins after the second's first byte
pub begins_after : (a1 a2 : ℕ) → a1 < 2 ^ 24 → a2 < 2 ^ 24 → distance a2 a1 ≡ 1 → a1 ≡ address_after a2 1
begins_after a1 a2 low1 low2 one = omega (arith, low1, low2, one)

first_moved : (s : Storage) (a1 a2 b : ℕ) → a2 < 2 ^ 24 → b ≡ content_at s a2 → take 1 (replicate 256 b) ≡ stored_by (moved_byte s a1 a2) 1
unfolding stored_by moved_byte byte_seen
first_moved s a1 a2 b low is =
    let first : address_after a2 0 ≡ a2 = omega (arith, low) in
    let past : nat_lt (distance a1 a2) (length {A = ℕ} []) ≡ false = le-ltb (distance a1 a2) 0 (omega arith) in
    rw (first, past, is) refl

-- that byte is stored throughout
pub byte_is_moved : (s : Storage) (a1 a2 n b : ℕ) → a2 < 2 ^ 24 → n ≤ 256 → a1 ≡ address_after a2 1 → b ≡ content_at s a2
    → take n (replicate 256 b) ≡ stored_by (moved_byte s a1 a2) n
byte_is_moved s a1 a2 zero b low few begins is = sym (stored_none (moved_byte s a1 a2))
byte_is_moved s a1 a2 (suc n) b low few begins is =
    let long : length (replicate 256 b) ≡ 256 = length-replicate 256 b in
    repeated_is_moved s a1 a2 1 (suc n) (replicate 256 b) low begins (omega arith) (omega (arith, few)) (omega (arith, few, long)) (omega arith)
    (λ k less. get_or-replicate 256 (k + 1) b 0 (omega (arith, less, long)) ∙ sym (get_or-replicate 256 k b 0 (omega (arith, less, long))))
    (first_moved s a1 a2 b low is)

-- bytes that are present are so without the last one
shorter : (s : Storage) (a n : ℕ) → is_some (span s a (suc n)) ≡ true → is_some (span s a n) ≡ true
unfolding span
shorter s a zero h = refl
shorter s a (suc n) h =
    let first = span_first s a (suc (suc n)) h (omega arith) in
    let one : suc n - 1 ≡ n = omega arith in
    let two : suc (suc n) - 1 ≡ suc n = omega arith in
    let here : is_some (span s a (suc n)) ≡ is_some (span s (address_after a 1) n) = rw one at (span_present s a (suc n) first (omega arith)) in
    let long : is_some (span s a (suc (suc n))) ≡ is_some (span s (address_after a 1) (suc n)) = rw two at (span_present s a (suc (suc n)) first (omega arith)) in
    here ∙ shorter s (address_after a 1) n (sym long ∙ h)

-- the second operand is present where its first byte and the first operand are
begun : (s : Storage) (a1 a2 n b : ℕ) → 0 < n → a1 ≡ address_after a2 1 → byte_at s a2 ≡ Some b → is_some (span s a1 n) ≡ true → is_some (span s a2 n) ≡ true
begun s a1 a2 zero b some begins here there = absurd (omega (arith, some))
begun s a1 a2 (suc n) b some begins here there =
    let first : is_some (byte_at s a2) ≡ true = rw here refl in
    let one : suc n - 1 ≡ n = omega arith in
    let step : is_some (span s a2 (suc n)) ≡ is_some (span s (address_after a2 1) n) = rw one at (span_present s a2 (suc n) first some) in
    step ∙ shorter s (address_after a2 1) n (rw begins at there)

-- MVC of operands of which the first begins after the second's first byte stores that byte throughout
pub spread : (m after : Machine) (n a1 a2 b : ℕ) (updated : Updated) (outcome : Outcome) → a2 < 2 ^ 24 → 0 < n → n ≤ 256 → a1 ≡ address_after a2 1
    → byte_at m.storage a2 ≡ Some b → is_some (span m.storage a1 n) ≡ true → Stores a1 (replicate n b) m.cc updated m outcome after → MvcEffect n a1 a2 updated m outcome after
unfolding MvcEffect
spread m after n a1 a2 b updated outcome low some few begins here there stores =
    let is : b ≡ content_at m.storage a2 = rw here refl in
    let same : replicate n b ≡ stored_by (moved_byte m.storage a1 a2) n = sym (take-replicate n 256 b few) ∙ byte_is_moved m.storage a1 a2 n b low few begins is in
    let moves : Stores a1 (stored_by (moved_byte m.storage a1 a2) n) m.cc updated m outcome after = rw same at stores in
    if_present _ _ _ _ _ (begun m.storage a1 a2 n b some begins here there) moves

pub zeros_are_joined : (s : Storage) (a n : ℕ) → a < 2 ^ 24 → n ≤ 256 → is_some (span s a n) ≡ true → take n (replicate 256 0) ≡ stored_by (xored_byte s a a) n
zeros_are_joined s a n low few there = go (span s a n) refl there
  where
    go : (o : Option (List ℕ)) → span s a n ≡ o → is_some o ≡ true → take n (replicate 256 0) ≡ stored_by (xored_byte s a a) n
    go None e h = cc
    go (Some bytes) e h =
        let size : length {A = ℕ} (replicate n 0) ≡ n = length-replicate {A = ℕ} n 0 in
        take-replicate n 256 0 few
        ∙ same_number_lists (replicate n 0) (stored_by (xored_byte s a a) n) (size ∙ sym (stored_length (xored_byte s a a) n))
        (λ k l.
        let within : k < n = omega (arith, l, size) in
        get_or-replicate n k 0 0 within
        ∙ sym (outside_is_joined s a a n k bytes bytes low low (omega (arith, few)) (λ j some less same. omega (arith, low, few, some, less, same)) e e within ∙ xor_self (slice_index bytes k)))

-- and so is the number that they spell
pub zero_number : (n : ℕ) → number_of (replicate n 0) ≡ 0
zero_number zero = refl
zero_number (suc n) = omega (arith, zero_number n)
