-- MVC and XC of operands of which the first doesn't begin inside the second after its first byte.
use Rattle.std.proofs.Common.{◌≡◌, ◌≢◌, ℕ, ◌-◌, ◌^◌, ◌<◌, ◌≤◌, ◌&&◌, true, false, Some, List, is_some, None, Option, Err, rules, length, take, slice_index, bit_xor, refl, subst, sym, ◌∙◌, inl, inr, arith, unwrap_or}
use Rattle.std.proofs.lemmas.Bool.{cases_lt, le-ltb}
use Rattle.std.proofs.lemmas.Grind.{same_number_lists}
use Rattle.std.proofs.lemmas.List.{length-take-le}
use Rattle.cx_storage.specs.Storage.{Storage, span, after_write}
use Rattle.cx_storage.specs.Address.{address_after, distance}
use Rattle.cx_storage.specs.Facts.Spans.{span_at, span_length}
use Rattle.cx_exec.specs.Sequence.{content_at, byte_seen, stored_by}
use Rattle.cx_exec.specs.Strings.{moved_byte, xored_byte, MvcEffect, XcEffect}
use Rattle.cx_exec.specs.declared.machine.Interruption.TheVariants as interruption
use Rattle.cx_exec.specs.declared.machine.Updated.{Updated}
use Rattle.cx_exec.specs.Machine.{Machine}
use Rattle.cx_exec.specs.Numbers.{number_of}
use Rattle.cx_exec.specs.Logic.{logical_code}
use Rattle.cx_exec.specs.Outcome.{Outcome, Completes}
use Rattle.cx_exec.specs.Operands.{IfPresent, Stores}
use Rattle.cx_exec.proofs.SequenceLemmas.{stored_length, each_is_stored}

abbrev Outside : ℕ → ℕ → ℕ → Type 0
Outside n a1 a2 = (j : ℕ) → 0 < j → j < n → a1 ≢ address_after a2 j

-- an effect on an operand that is present
pub if_present : {A : Type 0} (o : Option A) (m after : Machine) (outcome : Outcome) (effect : Type 0) → is_some o ≡ true → effect → IfPresent o m outcome after (λ _. effect)
if_present None m after outcome effect there x = cc
if_present (Some y) m after outcome effect there x = x

-- a byte that was stored earlier is at an address that follows the first operand's beginning
back_at : (a1 a2 k : ℕ) → a1 < 2 ^ 24 → a2 < 2 ^ 24 → k ≤ 2 ^ 24 → distance a1 (address_after a2 k) < k → a1 ≡ address_after a2 (k - distance a1 (address_after a2 k))
back_at a1 a2 k low1 low2 fits h = omega (arith, h)

-- so no byte of the second operand was stored before it is fetched
not_stored : (n a1 a2 k : ℕ) → a1 < 2 ^ 24 → a2 < 2 ^ 24 → n ≤ 2 ^ 24 → Outside n a1 a2 → k < n → k ≤ distance a1 (address_after a2 k)
not_stored n a1 a2 k low1 low2 fits outside h = elim (cases_lt (distance a1 (address_after a2 k)) k) [
  | inl lt ↦ absurd (outside (k - distance a1 (address_after a2 k)) (omega (arith, lt)) (omega (arith, h)) (back_at a1 a2 k low1 low2 (omega (arith, h, fits)) lt))
  | inr ge ↦ ge
]

-- the byte of the second operand that is seen then
seen_before : (s : Storage) (a1 a2 n k : ℕ) (stored second : List ℕ) → a2 < 2 ^ 24 → length stored ≡ k → k ≤ distance a1 (address_after a2 k)
    → span s a2 n ≡ Some second → k < n → byte_seen s stored (distance a1 (address_after a2 k)) (address_after a2 k) ≡ slice_index second k
unfolding byte_seen
seen_before s a1 a2 n k stored second low long far e h =
    let past = le-ltb (distance a1 (address_after a2 k)) (length stored) (omega (arith, far, long)) in
    rw past (rw (span_at s a2 n second k low e h) refl)

front_length : (rule : List ℕ → ℕ → ℕ) (n k : ℕ) → k < n → length (take k (stored_by rule n)) ≡ k
front_length rule n k h = length-take-le k (stored_by rule n) (omega (arith, stored_length rule n, h))

moved_before : (s : Storage) (a1 a2 n k : ℕ) (second : List ℕ) → a1 < 2 ^ 24 → a2 < 2 ^ 24 → n ≤ 2 ^ 24 → Outside n a1 a2 → span s a2 n ≡ Some second → k < n
    → slice_index (stored_by (moved_byte s a1 a2) n) k ≡ slice_index second k
unfolding moved_byte
moved_before s a1 a2 n k second low1 low2 fits outside e h =
    (each_is_stored (moved_byte s a1 a2) n k h).1
    ∙ seen_before s a1 a2 n k (take k (stored_by (moved_byte s a1 a2) n)) second low2 (front_length (moved_byte s a1 a2) n k h) (not_stored n a1 a2 k low1 low2 fits outside h) e h

pub outside_is_moved : (s : Storage) (a1 a2 n : ℕ) (second : List ℕ) → a1 < 2 ^ 24 → a2 < 2 ^ 24 → n ≤ 2 ^ 24 → Outside n a1 a2
    → span s a2 n ≡ Some second → stored_by (moved_byte s a1 a2) n ≡ second
outside_is_moved s a1 a2 n second low1 low2 fits outside e =
    same_number_lists (stored_by (moved_byte s a1 a2) n) second (stored_length (moved_byte s a1 a2) n ∙ sym (span_length s a2 n second e))
    (λ k h. moved_before s a1 a2 n k second low1 low2 fits outside e (omega (arith, h, stored_length (moved_byte s a1 a2) n)))

pub outside_is_joined : (s : Storage) (a1 a2 n k : ℕ) (first second : List ℕ) → a1 < 2 ^ 24 → a2 < 2 ^ 24 → n ≤ 2 ^ 24 → Outside n a1 a2
    → span s a1 n ≡ Some first → span s a2 n ≡ Some second → k < n
    → slice_index (stored_by (xored_byte s a1 a2) n) k ≡ bit_xor (slice_index first k) (slice_index second k)
unfolding xored_byte
outside_is_joined s a1 a2 n k first second low1 low2 fits outside e1 e2 h =
    let own : content_at s (address_after a1 k) ≡ slice_index first k = rw (span_at s a1 n first k low1 e1 h) refl in
    let other = seen_before s a1 a2 n k (take k (stored_by (xored_byte s a1 a2) n)) second low2 (front_length (xored_byte s a1 a2) n k h) (not_stored n a1 a2 k low1 low2 fits outside h) e2 h in
    (each_is_stored (xored_byte s a1 a2) n k h).1 ∙ rw (own, other) refl

-- what a buffer that was filled from the second operand is
pub read_is_moved : (s : Storage) (a1 a2 n : ℕ) (old : List ℕ) → a1 < 2 ^ 24 → a2 < 2 ^ 24 → n ≤ 2 ^ 24 → Outside n a1 a2
    → is_some (span s a2 n) ≡ true → unwrap_or (span s a2 n) old ≡ stored_by (moved_byte s a1 a2) n
read_is_moved s a1 a2 n old low1 low2 fits outside there = go (span s a2 n) refl there
  where
    go : (o : Option (List ℕ)) → span s a2 n ≡ o → is_some o ≡ true → unwrap_or o old ≡ stored_by (moved_byte s a1 a2) n
    go None e h = cc
    go (Some second) e h = sym (outside_is_moved s a1 a2 n second low1 low2 fits outside e)

-- and what strings that both operands are come to when they are joined
pub spans_are_joined : (s : Storage) (a1 a2 n : ℕ) (first second new : List ℕ) → a1 < 2 ^ 24 → a2 < 2 ^ 24 → n ≤ 2 ^ 24 → Outside n a1 a2
    → span s a1 n ≡ Some first → span s a2 n ≡ Some second → length new ≡ n
    → ((k : ℕ) → k < n → slice_index new k ≡ bit_xor (slice_index first k) (slice_index second k))
    → new ≡ stored_by (xored_byte s a1 a2) n
spans_are_joined s a1 a2 n first second new low1 low2 fits outside e f long each =
    same_number_lists new (stored_by (xored_byte s a1 a2) n) (long ∙ sym (stored_length (xored_byte s a1 a2) n))
    (λ k l.
    let within : k < n = omega (arith, l, long) in
    each k within ∙ sym (outside_is_joined s a1 a2 n k first second low1 low2 fits outside e f within))

-- so do buffers that were filled from them
pub read_is_joined : (s : Storage) (a1 a2 n size1 size2 : ℕ) (old1 old2 first second new : List ℕ)
    → first ≡ unwrap_or (span s a1 size1) old1 → second ≡ unwrap_or (span s a2 size2) old2 → size1 ≡ n → size2 ≡ n
    → is_some (span s a1 size1) ≡ true → is_some (span s a2 size2) ≡ true
    → a1 < 2 ^ 24 → a2 < 2 ^ 24 → n ≤ 2 ^ 24 → Outside n a1 a2 → length first ≡ n → length new ≡ n
    → ((k : ℕ) → k < length first → slice_index new k ≡ bit_xor (slice_index first k) (slice_index second k))
    → new ≡ stored_by (xored_byte s a1 a2) n
read_is_joined s a1 a2 n size1 size2 old1 old2 first second new full1 full2 width1 width2 there1 there2 low1 low2 fits outside wide long each =
    go (span s a1 n) (span s a2 n) refl refl (rw width1 at there1) (rw width2 at there2) (rw width1 at full1) (rw width2 at full2)
  where
    go : (o p : Option (List ℕ)) → span s a1 n ≡ o → span s a2 n ≡ p → is_some o ≡ true → is_some p ≡ true
        → first ≡ unwrap_or o old1 → second ≡ unwrap_or p old2 → new ≡ stored_by (xored_byte s a1 a2) n
    go None p e f h i g1 g2 = cc
    go (Some b) None e f h i g1 g2 = cc
    go (Some b) (Some d) e f h i g1 g2 =
        spans_are_joined s a1 a2 n b d new low1 low2 fits outside e f long
        (λ k within. let bytes = each k (omega (arith, within, wide)) in rw (g1, g2) at bytes)

-- MVC of such operands stores what a buffer was filled with from the second
pub copied : (m after : Machine) (n a1 a2 size : ℕ) (old bytes : List ℕ) (updated : Updated) (outcome : Outcome)
    → a1 < 2 ^ 24 → a2 < 2 ^ 24 → n ≤ 2 ^ 24 → Outside n a1 a2 → size ≡ n → is_some (span m.storage a2 size) ≡ true
    → bytes ≡ unwrap_or (span m.storage a2 size) old
    → Stores a1 bytes m.cc updated m outcome after → MvcEffect n a1 a2 updated m outcome after
unfolding MvcEffect
copied m after n a1 a2 size old bytes updated outcome low1 low2 fits outside width there filled stores =
    let present : is_some (span m.storage a2 n) ≡ true = rw width at there in
    let full : bytes ≡ unwrap_or (span m.storage a2 n) old = rw width at filled in
    let same : bytes ≡ stored_by (moved_byte m.storage a1 a2) n = full ∙ read_is_moved m.storage a1 a2 n old low1 low2 fits outside present in
    let moves : Stores a1 (stored_by (moved_byte m.storage a1 a2) n) m.cc updated m outcome after = rw same at stores in
    if_present _ _ _ _ _ present moves

-- and the bytes that it lends
pub copied_lent : (m after : Machine) (n a1 a2 : ℕ) (bytes : List ℕ) (updated : Updated) (outcome : Outcome)
    → a1 < 2 ^ 24 → a2 < 2 ^ 24 → n ≤ 2 ^ 24 → Outside n a1 a2 → span m.storage a2 n ≡ Some bytes
    → Stores a1 bytes m.cc updated m outcome after → MvcEffect n a1 a2 updated m outcome after
unfolding MvcEffect
copied_lent m after n a1 a2 bytes updated outcome low1 low2 fits outside there stores =
    let same : stored_by (moved_byte m.storage a1 a2) n ≡ bytes = outside_is_moved m.storage a1 a2 n bytes low1 low2 fits outside there in
    let moves : Stores a1 (stored_by (moved_byte m.storage a1 a2) n) m.cc updated m outcome after = rw same stores in
    rw there moves

-- XC on a machine which nothing has changed
pub xored_as_before : (before m after : Machine) (n a1 a2 : ℕ) (updated : Updated) (outcome : Outcome) → m ≡ before
    → XcEffect n a1 a2 updated m outcome after → XcEffect n a1 a2 updated before outcome after
xored_as_before before m after n a1 a2 updated outcome same joins =
    subst (λ (x : Machine). XcEffect n a1 a2 updated x outcome after) same joins

-- XC of operands of which one isn't there
pub not_joined : (m : Machine) (n a1 a2 : ℕ) (updated : Updated) → (is_some (span m.storage a1 n) && is_some (span m.storage a2 n)) ≡ false
    → XcEffect n a1 a2 updated m (Err interruption.Addressing) m
unfolding XcEffect Stores
not_joined m n a1 a2 updated absent =
    let size : length (stored_by (xored_byte m.storage a1 a2) n) ≡ n = stored_length (xored_byte m.storage a1 a2) n in
    let gone : (is_some (span m.storage a1 (length (stored_by (xored_byte m.storage a1 a2) n))) && is_some (span m.storage a2 n)) ≡ false = rw size absent in
    go (span m.storage a2 n) (span m.storage a1 (length (stored_by (xored_byte m.storage a1 a2) n))) gone
  where
    go : (o p : Option (List ℕ)) → (is_some p && is_some o) ≡ false
        → IfPresent o m (Err interruption.Addressing) m (λ (_ : List ℕ). IfPresent p m (Err interruption.Addressing) m (λ (_ : List ℕ). Completes (Err interruption.Addressing) m (record m {
          storage = after_write m.storage a1 (stored_by (xored_byte m.storage a1 a2) n);
          cc = logical_code (number_of (stored_by (xored_byte m.storage a1 a2) n));
          next = updated.address;
        })))
    go None p e = search rules
    go (Some b) None e = search rules
    go (Some b) (Some f) e = cc

-- XC of such operands stores the bytes that they are joined to
pub joined : (m after : Machine) (n a1 a2 cc : ℕ) (new : List ℕ) (updated : Updated) (outcome : Outcome)
    → (is_some (span m.storage a1 n) && is_some (span m.storage a2 n)) ≡ true → new ≡ stored_by (xored_byte m.storage a1 a2) n
    → cc ≡ logical_code (number_of new) → Stores a1 new cc updated m outcome after → XcEffect n a1 a2 updated m outcome after
unfolding XcEffect
joined m after n a1 a2 code new updated outcome there same coded stores =
    let result : Stores a1 new (logical_code (number_of new)) updated m outcome after = rw coded at stores in
    let joins : Stores a1 (stored_by (xored_byte m.storage a1 a2) n) (logical_code (number_of (stored_by (xored_byte m.storage a1 a2) n))) updated m outcome after = rw same at result in
    if_present _ _ _ _ _ (second (span m.storage a1 n) (span m.storage a2 n) there) joins
  where
    second : (p o : Option (List ℕ)) → (is_some p && is_some o) ≡ true → is_some o ≡ true
    second None o h = cc
    second (Some f) o h = h
