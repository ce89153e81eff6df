-- Items of lists: two lists with as many, and lists whose items stand once.
use Rattle.std.proofs.Common.{◌≡◌, ℕ, zero, suc, ◌≤◌, List, [], ◌∷◌, length, Bool, true, false, true≢false, ◌||◌, get_or, ◌⊎◌, inl, inr, Some, ap, refl, sym, ◌∙◌, arith}
use Rattle.std.specs.Prelude.{slice_get}
use Rattle.std.specs.Cmp.{IsEquivalence}
use Rattle.std.specs.List.{IsDistinct, list_any}
use Rattle.std.proofs.lemmas.Map.Keys.{IsDistinct-from_apart}
use Rattle.std.proofs.lemmas.Map.Made.{length-le_from_is_member}
use Rattle.std.proofs.lemmas.Option.{none-some, same_Some, slice_get-get_or}

-- ---- two lists
-- at a place of one of as many there is an item of the other
pub item_too : {X Y : Type 0} (xs : List X) (ys : List Y) (k : ℕ) (x : X) → length xs ≡ length ys
    → slice_get xs k ≡ Some x → (y : Y) × (slice_get ys k ≡ Some y)
item_too [] ys k x many is = absurd (none-some x is)
item_too (z ∷ xs) [] k x many is = absurd (omega (arith, many))
item_too (z ∷ xs) (y ∷ ys) zero x many is = (y, refl)
item_too (z ∷ xs) (y ∷ ys) (suc k) x many is = item_too xs ys k x (omega (arith, many)) is

-- two lists with the same items at the same places are one
pub same_items : {X : Type 0} (xs ys : List X)
    → ((k : ℕ) (x : X) → slice_get xs k ≡ Some x → slice_get ys k ≡ Some x)
    → ((k : ℕ) (y : X) → slice_get ys k ≡ Some y → slice_get xs k ≡ Some y) → xs ≡ ys
same_items [] [] there back = refl
same_items [] (y ∷ ys) there back = absurd (none-some y (back 0 y refl))
same_items (x ∷ xs) [] there back = absurd (none-some x (there 0 x refl))
same_items (x ∷ xs) (y ∷ ys) there back =
    ap (λ z. z ∷ xs) (sym (same_Some y x (there 0 x refl)))
    ∙ ap (λ zs. y ∷ zs)
    (same_items xs ys (λ k z is. there (suc k) z is) (λ k z is. back (suc k) z is))

-- ---- items that stand once
either : (b c : Bool) → (b || c) ≡ true → (b ≡ true) ⊎ (c ≡ true)
either true c is = inl refl
either false c is = inr is

first_of_two : (b c : Bool) → b ≡ true → (b || c) ≡ true
first_of_two true c is = refl
first_of_two false c is = absurd (true≢false (sym is))

second_of_two : (b c : Bool) → c ≡ true → (b || c) ≡ true
second_of_two true c is = refl
second_of_two false c is = is

not_true : (b : Bool) → (b ≡ true → ⊥) → b ≡ false
not_true true never = absurd (never refl)
not_true false never = refl

module _ {X : Type 0} (same : X → X → Bool) (laws : IsEquivalence same)
    (same_is : (x y : X) → same x y ≡ true → x ≡ y) where
  is_same : (x y : X) → x ≡ y → same x y ≡ true
  is_same x y e = ap (λ z. same x z) (sym e) ∙ laws.refl x

  any_at : (q : X) (xs : List X) → list_any (same q) xs ≡ true → (k : ℕ) × (slice_get xs k ≡ Some q)
  any_at q [] is = absurd (true≢false (sym is))
  any_at q (x ∷ xs) is = elim (either (same q x) (list_any (same q) xs) is) [
    | inl e ↦ (0, ap Some (sym (same_is q x e)))
    | inr r ↦ let it = any_at q xs r in (suc it.0, it.1)
  ]

  at_any : (q : X) (xs : List X) (k : ℕ) → slice_get xs k ≡ Some q → list_any (same q) xs ≡ true
  at_any q [] k is = absurd (none-some q is)
  at_any q (x ∷ xs) zero is =
      first_of_two (same q x) (list_any (same q) xs) (is_same q x (sym (same_Some x q is)))
  at_any q (x ∷ xs) (suc k) is = second_of_two (same q x) (list_any (same q) xs) (at_any q xs k is)

  abbrev StandOnce : List X → Type 0
  StandOnce xs = (j k : ℕ) (x : X) → slice_get xs j ≡ Some x → slice_get xs k ≡ Some x → j ≡ k

  distinct : (xs : List X) → StandOnce xs → IsDistinct same xs
  distinct xs once =
      IsDistinct-from_apart same xs (λ i j d l within.
      not_true (same (get_or xs i d) (get_or xs j d)) (λ e.
      let one = slice_get-get_or xs i d (omega (arith, l, within)) in
      let other = slice_get-get_or xs j d within ∙ ap Some (sym (same_is (get_or xs i d) (get_or xs j d) e)) in
      let at = once i j (get_or xs i d) one other in
      omega (arith, l, at)))

  -- items that stand once are at most those of a list that has them
  pub at_most : (xs ys : List X) → StandOnce xs
      → ((k : ℕ) (x : X) → slice_get xs k ≡ Some x → (j : ℕ) × (slice_get ys j ≡ Some x))
      → length xs ≤ length ys
  at_most xs ys once has =
      length-le_from_is_member laws xs ys (distinct xs once) (λ q is.
      let it = any_at q xs is in
      let there = has it.0 q it.1 in
      at_any q ys there.0 there.1)
