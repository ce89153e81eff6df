-- A front that is repeated, and MVC of an operand that begins after it.
use Rattle.std.proofs.Common.{◌≡◌, ℕ, zero, suc, ◌+◌, ◌-◌, ◌^◌, ◌<◌, ◌≤◌, List, [], ◌∷◌, ◌++◌, length, take, slice_index, refl, sym, ap, ◌∙◌, inl, inr, arith, ◌⊎◌, true, nat_lt, subst}
use Rattle.std.proofs.lemmas.List.{get_or-take, length-take-le, take-append-le, take_more}
use Rattle.std.proofs.lemmas.Grind.{same_number_lists}
use Rattle.cx_exec.proofs.SequenceLemmas.{stored_length, stored_more}
use Rattle.std.proofs.lemmas.Bool.{cases_lt, lt-ltb}
use Rattle.cx_storage.specs.Storage.{Storage}
use Rattle.cx_storage.specs.Address.{address_after, distance}
use Rattle.cx_exec.specs.Sequence.{byte_seen, stored_by}
use Rattle.cx_exec.specs.Strings.{moved_byte}

-- the first `filled` bytes of a buffer repeat its front
pub record Repeats (bytes : List ℕ) (period filled : ℕ) : Type 0 where
  pub each : (k : ℕ) → k + period < filled → k + period < length bytes → slice_index bytes (k + period) ≡ slice_index bytes k
  pub last : filled ≤ length bytes → (k : ℕ) → k < period → slice_index bytes (filled - period + k) ≡ slice_index bytes k

pub repeats_once : (bytes : List ℕ) (period : ℕ) → Repeats bytes period period
repeats_once bytes period = record {
  each = λ k less within. absurd (omega (arith, less));
  last = λ room k less. let at : period - period + k ≡ k = omega arith in ap (slice_index bytes) at;
}

pub doubled : (old new : List ℕ) (period filled : ℕ) → period ≤ filled → filled ≤ length old → Repeats old period filled → length new ≡ length old
    → ((k : ℕ) → k < filled → slice_index new k ≡ slice_index old k)
    → ((k : ℕ) → k < filled → filled + k < length old → slice_index new (filled + k) ≡ slice_index old k)
    → Repeats new period (filled + filled)
doubled old new period filled some room so_far size prefix after = record {
  each = λ k less within. at k less within (cases_lt (k + period) filled) (cases_lt k filled);
  last = λ fits k less.
      let place : filled + filled - period + k ≡ filled + (filled - period + k) = omega (arith, some) in
      ap (slice_index new) place
      ∙ after (filled - period + k) (omega (arith, less, some)) (omega (arith, less, some, fits, size))
      ∙ so_far.last room k less
      ∙ sym (prefix k (omega (arith, less, some)));
}
  where
    at : (k : ℕ) → k + period < filled + filled → k + period < length new → (k + period < filled) ⊎ (filled ≤ k + period) → (k < filled) ⊎ (filled ≤ k)
        → slice_index new (k + period) ≡ slice_index new k
    at k less within (inl low) _ =
        prefix (k + period) low ∙ so_far.each k low (omega (arith, low, room)) ∙ sym (prefix k (omega (arith, low)))
    at k less within (inr high) (inl low) =
        let j : ℕ = k + period - filled in
        let there : k + period ≡ filled + j = omega (arith, high) in
        let here : filled - period + j ≡ k = omega (arith, high, some) in
        ap (slice_index new) there
        ∙ after j (omega (arith, high, less)) (omega (arith, there, within, size))
        ∙ sym (so_far.last room j (omega (arith, high, low)))
        ∙ ap (slice_index old) here
        ∙ sym (prefix k low)
    at k less within (inr high) (inr past) =
        let j : ℕ = k - filled in
        let from : k ≡ filled + j = omega (arith, past) in
        let to : k + period ≡ filled + (j + period) = omega (arith, past) in
        ap (slice_index new) to
        ∙ after (j + period) (omega (arith, past, less)) (omega (arith, to, within, size))
        ∙ so_far.each j (omega (arith, past, less)) (omega (arith, past, less, room))
        ∙ sym (after j (omega (arith, past, less)) (omega (arith, from, within, size)))
        ∙ ap (slice_index new) (sym from)

-- one more byte of a buffer that repeats its front is the one that MVC stores
more_moved : (s : Storage) (a1 a2 period m : ℕ) (new : List ℕ) → a2 < 2 ^ 24 → a1 ≡ address_after a2 period → 0 < period → period ≤ m → m < 2 ^ 24 → m < length new
    → ((k : ℕ) → k + period < length new → slice_index new (k + period) ≡ slice_index new k)
    → take m new ≡ stored_by (moved_byte s a1 a2) m → take (m + 1) new ≡ stored_by (moved_byte s a1 a2) (m + 1)
unfolding moved_byte byte_seen
more_moved s a1 a2 period m new low begins some past few room each so_far =
    let rule : List ℕ → ℕ → ℕ = moved_byte s a1 a2 in
    let stored : List ℕ = stored_by rule m in
    let at : distance a1 (address_after a2 m) ≡ m - period = omega (arith, begins, low, few, past) in
    let earlier : nat_lt (distance a1 (address_after a2 m)) (length stored) ≡ true = lt-ltb (distance a1 (address_after a2 m)) (length stored) (omega (arith, at, some, past, stored_length rule m)) in
    let back : m - period + period ≡ m = omega (arith, past) in
    let made : rule stored m ≡ slice_index new m =
    rw earlier
    (ap (slice_index stored) at
    ∙ ap (λ (x : List ℕ). slice_index x (m - period)) (sym so_far)
    ∙ get_or-take m new (m - period) 0 (omega (arith, some, past))
    ∙ sym (each (m - period) (omega (arith, back, room)))
    ∙ ap (slice_index new) back) in
    take_more new m 0 room ∙ ap (λ (b : ℕ). take m new ++ b ∷ []) (sym made) ∙ ap (λ (x : List ℕ). x ++ rule stored m ∷ []) so_far ∙ sym (stored_more rule m)

pub repeated_is_moved : (s : Storage) (a1 a2 period n : ℕ) (new : List ℕ) → a2 < 2 ^ 24 → a1 ≡ address_after a2 period → 0 < period → n ≤ 2 ^ 24 → n ≤ length new → period ≤ n
    → ((k : ℕ) → k + period < length new → slice_index new (k + period) ≡ slice_index new k)
    → take period new ≡ stored_by (moved_byte s a1 a2) period → take n new ≡ stored_by (moved_byte s a1 a2) n
repeated_is_moved s a1 a2 period n new low begins some few room past each first = up (n - period) n (omega (arith, past)) few room
  where
    up : (more n : ℕ) → n ≡ period + more → n ≤ 2 ^ 24 → n ≤ length new → take n new ≡ stored_by (moved_byte s a1 a2) n
    up zero n e few room = let same : period ≡ n = omega (arith, e) in subst (λ (k : ℕ). take k new ≡ stored_by (moved_byte s a1 a2) k) same first
    up (suc more) n e few room =
        let before = up more (period + more) refl (omega (arith, e, few)) (omega (arith, e, room)) in
        let next : period + more + 1 ≡ n = omega (arith, e) in
        subst (λ (k : ℕ). take k new ≡ stored_by (moved_byte s a1 a2) k) next
        (more_moved s a1 a2 period (period + more) new low begins some (omega arith) (omega (arith, e, few)) (omega (arith, e, room)) each before)

-- a buffer whose front was made, and repeated up to n
pub refilled_is_moved : (s : Storage) (a1 a2 period n : ℕ) (made lent new after : List ℕ) → a2 < 2 ^ 24 → a1 ≡ address_after a2 period → 0 < period → period < n → n ≤ 2 ^ 24
    → lent ≡ take n made → length made ≡ 256 → n ≤ 256 → take period made ≡ stored_by (moved_byte s a1 a2) period → length new ≡ length lent
    → ((k : ℕ) → k < period → slice_index new k ≡ slice_index lent k)
    → ((k : ℕ) → k + period < length lent → slice_index new (k + period) ≡ slice_index new k)
    → take n (new ++ after) ≡ stored_by (moved_byte s a1 a2) n
refilled_is_moved s a1 a2 period n made lent new after low begins some past few part whole most first size prefix each =
    let long : length new ≡ n = size ∙ ap length part ∙ length-take-le n made (omega (arith, whole, most)) in
    let same : take period new ≡ take period made =
    same_number_lists (take period new) (take period made)
    (length-take-le period new (omega (arith, long, past)) ∙ sym (length-take-le period made (omega (arith, whole, past, most))))
    (λ k less.
    let within : k < period = omega (arith, less, length-take-le period new (omega (arith, long, past))) in
    get_or-take period new k 0 within ∙ prefix k within ∙ ap (λ (x : List ℕ). slice_index x k) part ∙ get_or-take n made k 0 (omega (arith, within, past)) ∙ sym (get_or-take period made k 0 within)) in
    take-append-le n new after (omega (arith, long))
    ∙ repeated_is_moved s a1 a2 period n new low begins some few (omega (arith, long)) (omega (arith, past)) (λ k less. each k (omega (arith, less, size))) (same ∙ first)

-- the place in the second operand at which the first begins
pub begins_at : (a1 a2 : ℕ) → a1 < 2 ^ 24 → a2 < 2 ^ 24 → a1 ≡ address_after a2 (distance a2 a1)
begins_at a1 a2 low1 low2 = omega (arith, low1, low2)
