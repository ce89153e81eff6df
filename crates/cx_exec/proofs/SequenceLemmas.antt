-- Bytes that are stored one after the other: one more, and each of them.
use Rattle.std.proofs.Common.{◌≡◌, ℕ, zero, suc, ◌+◌, ◌<◌, List, [], ◌∷◌, ◌++◌, length, take, slice_index, slice_set, refl, sym, ◌∙◌, ap, inl, inr, add-one, arith}
use Rattle.std.proofs.Math.Seq.{get_or-append_seam}
use Rattle.std.proofs.lemmas.Bool.{cases_lt}
use Rattle.std.proofs.lemmas.List.{length-append, take-append-le, take_at, take_more_set, get_or_append_left}
use Rattle.cx_exec.specs.Sequence.{stored_by}

pub stored_none : (rule : List ℕ → ℕ → ℕ) → stored_by rule 0 ≡ []
unfolding stored_by
stored_none rule = refl

pub stored_more : (rule : List ℕ → ℕ → ℕ) (n : ℕ) → stored_by rule (n + 1) ≡ stored_by rule n ++ rule (stored_by rule n) n ∷ []
unfolding stored_by
stored_more rule n = rw add-one refl

pub stored_length : (rule : List ℕ → ℕ → ℕ) (n : ℕ) → length (stored_by rule n) ≡ n
unfolding stored_by
stored_length rule zero = refl
stored_length rule (suc n) = omega (arith, length-append (stored_by rule n) (rule (stored_by rule n) n ∷ []), stored_length rule n)

each_stored : (rule : List ℕ → ℕ → ℕ) (n k : ℕ) → k < n → slice_index (stored_by rule n) k ≡ rule (take k (stored_by rule n)) k
unfolding stored_by
each_stored rule zero k h = absurd (omega arith)
each_stored rule (suc n) k h =
    let prefix : List ℕ = stored_by rule n in
    let back : List ℕ = rule prefix n ∷ [] in
    let long : length prefix ≡ n = stored_length rule n in
    elim (cases_lt k n) [
      | inl lt ↦
          get_or_append_left prefix back 0 k (omega (arith, long, lt)) ∙ each_stored rule n k lt
          ∙ ap (λ (x : List ℕ). rule x k) (sym (take-append-le k prefix back (omega (arith, long, lt))))
      | inr ge ↦
          let same : n ≡ k = omega (arith, h, ge) in
          let here : slice_index (prefix ++ back) n ≡ rule prefix n = rw long at (get_or-append_seam prefix (rule prefix n) [] 0) in
          let whole : take n (prefix ++ back) ≡ prefix = take_at prefix back n long in
          rw (← same, here, whole) refl
    ]

pub each_is_stored : (rule : List ℕ → ℕ → ℕ) (n k : ℕ) → k < n
    → (length (stored_by rule n) ≡ n) × (slice_index (stored_by rule n) k ≡ rule (take k (stored_by rule n)) k)
each_is_stored rule n k h = (stored_length rule n, each_stored rule n k h)

-- a buffer with one byte more
pub filled : (rule : List ℕ → ℕ → ℕ) (k byte : ℕ) (new : List ℕ) → k < length new → take k new ≡ stored_by rule k → byte ≡ rule (take k new) k
    → take (k + 1) (slice_set new k byte) ≡ stored_by rule (k + 1)
filled rule k byte new h so_far made =
    take_more_set new k byte h ∙ rw (so_far, made, so_far) (sym (stored_more rule k))
