-- Items of lists, and two lists that are in one order.
use Rattle.std.proofs.Common.{◌≡◌, ℕ, zero, suc, ◌+◌, ◌<◌, List, [], ◌∷◌, drop, map, Some, ◌⊎◌, inl, inr, ap, refl, sym, subst, ◌∙◌, arith}
use Rattle.std.specs.Prelude.{slice_get, Err, IfOk, Ok, Result}
use Rattle.std.proofs.lemmas.Bool.{cases_lt}
use Rattle.std.proofs.lemmas.Option.{none-some, same_Some}

pub below_next : (i n : ℕ) → i < n + 1 → (i < n) ⊎ (i ≡ n)
below_next i n l = elim (cases_lt i n) [ inl m ↦ inl m | inr m ↦ inr (omega (arith, l, m)) ]

-- what is left of a list begins with the item there
pub drop_item : {X : Type 0} (xs : List X) (i : ℕ) (x : X) → slice_get xs i ≡ Some x → drop i xs ≡ x ∷ drop (suc i) xs
drop_item [] i x is = absurd (none-some x is)
drop_item (y ∷ xs) zero x is = ap (λ z. z ∷ xs) (same_Some y x is)
drop_item (y ∷ xs) (suc i) x is = drop_item xs i x is

pub drop_none : {X : Type 0} (xs : List X) → drop 0 xs ≡ xs
drop_none [] = refl
drop_none (x ∷ xs) = refl

-- the items of a list of what a function gives
pub mapped_item : {X Y : Type 0} (f : X → Y) (xs : List X) (i : ℕ) (x : X) → slice_get xs i ≡ Some x → slice_get (map f xs) i ≡ Some (f x)
mapped_item f [] i x is = absurd (none-some x is)
mapped_item f (y ∷ xs) zero x is = ap (λ z. Some (f z)) (same_Some y x is)
mapped_item f (y ∷ xs) (suc i) x is = mapped_item f xs i x is

pub of_mapped : {X Y : Type 0} (f : X → Y) (xs : List X) (i : ℕ) (y : Y) → slice_get (map f xs) i ≡ Some y → (x : X) × ((slice_get xs i ≡ Some x) × (f x ≡ y))
of_mapped f [] i y is = absurd (none-some y is)
of_mapped f (x ∷ xs) zero y is = (x, (refl, same_Some (f x) y is))
of_mapped f (x ∷ xs) (suc i) y is = of_mapped f xs i y is

-- what is said of a result goes on
pub ok_on : {A E : Type 0} (P Q : A → Type 0) (r : Result A E) → ((x : A) → P x → Q x) → IfOk r P → IfOk r Q
ok_on P Q (Ok x) on h = on x h
ok_on P Q (Err e) on h = h

-- ---- two sorted lists with the same items
module _ {X : Type 0} (Less : X → X → Type 0) (never : (x : X) → Less x x → ⊥)
    (onward : (x y z : X) → Less x y → Less y z → Less x z) where
  abbrev Sorted : List X → Type 0
  Sorted xs = (j k : ℕ) (x y : X) → j < k → slice_get xs j ≡ Some x → slice_get xs k ≡ Some y → Less x y

  abbrev Within : List X → List X → Type 0
  Within xs ys = (k : ℕ) (x : X) → slice_get xs k ≡ Some x → (j : ℕ) × (slice_get ys j ≡ Some x)

  later_sorted : (x : X) (xs : List X) → Sorted (x ∷ xs) → Sorted xs
  later_sorted x xs sorted j k y z l one other = sorted (suc j) (suc k) y z (omega (arith, l)) one other

  -- the first of two sorted lists is the same
  same_first : (x y : X) (xs ys : List X) → Sorted (x ∷ xs) → Sorted (y ∷ ys) → Within (x ∷ xs) (y ∷ ys)
      → Within (y ∷ ys) (x ∷ xs) → x ≡ y
  same_first x y xs ys one other there back = by (there 0 x refl) (back 0 y refl)
    where
      by : (j : ℕ) × (slice_get (y ∷ ys) j ≡ Some x) → (k : ℕ) × (slice_get (x ∷ xs) k ≡ Some y) → x ≡ y
      by (zero, e) k = sym (same_Some y x e)
      by (suc j, e) (zero, d) = same_Some x y d
      by (suc j, e) (suc k, d) =
          absurd (never x
          (onward x y x (one 0 (suc k) x y (omega arith) refl d) (other 0 (suc j) y x (omega arith) refl e)))

  later_within : (x y : X) (xs ys : List X) → x ≡ y → Sorted (x ∷ xs) → Within (x ∷ xs) (y ∷ ys) → Within xs ys
  later_within x y xs ys e sorted there k z is = by (there (suc k) z is)
    where
      by : (j : ℕ) × (slice_get (y ∷ ys) j ≡ Some z) → (j : ℕ) × (slice_get ys j ≡ Some z)
      by (zero, d) =
          absurd (never x (subst (Less x) (sym (e ∙ same_Some y z d)) (sorted 0 (suc k) x z (omega arith) refl is)))
      by (suc j, d) = (j, d)

  pub same_lists : (xs ys : List X) → Sorted xs → Sorted ys → Within xs ys → Within ys xs → xs ≡ ys
  same_lists [] [] one other there back = refl
  same_lists [] (y ∷ ys) one other there back = absurd (none-some y (back 0 y refl).1)
  same_lists (x ∷ xs) [] one other there back = absurd (none-some x (there 0 x refl).1)
  same_lists (x ∷ xs) (y ∷ ys) one other there back =
      let e = same_first x y xs ys one other there back in
      ap (λ z. z ∷ xs) e
      ∙ ap (λ zs. y ∷ zs)
      (same_lists xs ys (later_sorted x xs one) (later_sorted y ys other) (later_within x y xs ys e one there)
      (later_within y x ys xs (sym e) other back))
