-- The first of a range that passes, and how many columns a line has.
use Rattle.std.proofs.Common.{◌≡◌, ◌<◌, ◌≤◌, ℕ, ◌+◌, ◌-◌, Bool, true, false, cond, ltb, Some, None, List, length, take, suc, unwrap_or, ap, arith, length-drop, refl}
use borrow.Author.Tests.{ltb-false}
use Rattle.std.proofs.lemmas.List.Sums.{prefix_len-le-length}
use Rattle.std.proofs.Math.Nat.{min-le_left}
use Rattle.std.proofs.lemmas.List.{length-take}
use Rattle.std.specs.Prelude.{if◌then◌else◌}
use Rattle.std.specs.List.{find, position, position_or_len, range_with_len}
use Rattle.cx_source.specs.Lines.{columns}

pub find_next : (p : ℕ → Bool) (at end : ℕ) → at < end
    → find p (range_with_len at (end - at)) ≡ (if p at then Some at else find p (range_with_len (at + 1) (end - (at + 1))))
find_next p at end within =
    let e : end - at ≡ suc (end - (at + 1)) = omega arith in ap (λ (n : ℕ). find p (range_with_len at n)) e

pub find_end : (p : ℕ → Bool) (at end : ℕ) → end ≤ at → find p (range_with_len at (end - at)) ≡ None
find_end p at end over = let e : end - at ≡ 0 = omega arith in ap (λ (n : ℕ). find p (range_with_len at n)) e

pub columns_len : (first last : ℕ) (text : List ℕ) → length (columns first last text) ≤ last + 1 - first
columns_len first last text =
    rw (length-drop (first - 1) (take last text), length-take last text) (omega (arith, min-le_left last (length text)))

by_test : (b : Bool) (n m : ℕ) → (b ≡ false → m ≡ n) → unwrap_or (cond b (Some n) None) m ≡ n
by_test true n m h = refl
by_test false n m h = h refl

-- the first place that passes, or the length
pub first_or_length : {X : Type 0} (p : X → Bool) (xs : List X) → unwrap_or (position p xs) (length xs) ≡ position_or_len p xs
first_or_length p xs =
    let within : position_or_len p xs ≤ length xs = prefix_len-le-length _ xs in
    by_test (ltb (position_or_len p xs) (length xs)) (position_or_len p xs) (length xs) (λ e. let past : length xs ≤ position_or_len p xs = ltb-false _ _ e in omega arith)

pub position_within : {X : Type 0} (p : X → Bool) (xs : List X) → position_or_len p xs ≤ length xs
position_within p xs = prefix_len-le-length _ xs
