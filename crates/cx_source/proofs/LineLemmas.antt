-- Lemmas on the parts of a line.
use Rattle.std.proofs.Common.{◌≡◌, ◌≤◌, ℕ, Bool, true, false, List, length, unwrap_or, refl, arith, ltb, cond, Some, None}
use Rattle.std.specs.List.{position, position_or_len}
use borrow.Author.Tests.{ltb-false}
use Rattle.std.proofs.lemmas.List.Sums.{prefix_len-le-length}

by_test : (b : Bool) (n m : ℕ) → (b ≡ false → m ≡ n) → unwrap_or (cond b (Some n) None) m ≡ n
by_test true n m h = refl
by_test false n m h = h refl

-- the first place that passes, or the length
pub first_or_length : (p : ℕ → Bool) (xs : List ℕ) → (unwrap_or (position p xs) (length xs) ≡ position_or_len p xs) × (position_or_len p xs ≤ length xs)
first_or_length p xs =
    let within : position_or_len p xs ≤ length xs = prefix_len-le-length _ xs in
    (by_test (ltb (position_or_len p xs) (length xs)) (position_or_len p xs) (length xs) (λ e. let past : length xs ≤ position_or_len p xs = ltb-false _ _ e in omega arith), within)
