-- The items of a list with more at its end.
use Rattle.std.proofs.Common.{◌≡◌, ℕ, zero, suc, List, [], ◌∷◌, ◌++◌, length, Some, ◌⊎◌, inl, inr, ap, refl}
use Rattle.std.specs.Prelude.{slice_get}
use Rattle.std.proofs.lemmas.Option.{none-some, same_Some}

pub item_kept : {X : Type 0} (xs zs : List X) (i : ℕ) (y : X) → slice_get xs i ≡ Some y → slice_get (xs ++ zs) i ≡ Some y
item_kept [] zs i y is = absurd (none-some y is)
item_kept (x ∷ xs) zs zero y is = is
item_kept (x ∷ xs) zs (suc i) y is = item_kept xs zs i y is

pub item_last : {X : Type 0} (xs : List X) (y : X) → slice_get (xs ++ y ∷ []) (length xs) ≡ Some y
item_last [] y = refl
item_last (x ∷ xs) y = item_last xs y

pub item_appended : {X : Type 0} (xs : List X) (x y : X) (i : ℕ) → slice_get (xs ++ x ∷ []) i ≡ Some y → (slice_get xs i ≡ Some y) ⊎ ((i ≡ length xs) × (x ≡ y))
item_appended [] x y zero is = inr (refl, same_Some x y is)
item_appended [] x y (suc i) is = absurd (none-some y is)
item_appended (z ∷ xs) x y zero is = inl is
item_appended (z ∷ xs) x y (suc i) is = elim (item_appended xs x y i is) [ inl h ↦ inl h | inr h ↦ inr (ap suc h.0, h.1) ]
