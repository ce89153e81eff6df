-- The items of a list of what a function gives, and the first item that passes a test.
use Rattle.std.proofs.Common.{◌≡◌, ℕ, zero, suc, ◌+◌, ◌<◌, List, [], ◌∷◌, length, map, Bool, true, false, true≢false, cond, Some, None, ap, refl, sym, ◌∙◌, arith}
use Rattle.std.specs.Prelude.{not, option_map, slice_get}
use Rattle.std.specs.List.{position, position_or_len, prefix_len}
use Rattle.std.proofs.lemmas.Bool.{lt-ltb}
use Rattle.std.proofs.lemmas.Option.{none-some, same_Some, slice_get-map}

-- the items of a list of what a function gives
pub item_mapped : {X Y : Type 0} (f : X → Y) (xs : List X) (k : ℕ) (x : X) → slice_get xs k ≡ Some x → slice_get (map f xs) k ≡ Some (f x)
item_mapped f xs k x is = slice_get-map f xs k ∙ ap (option_map f) is

-- ---- the first item that passes a test
one_more : (n : ℕ) → 1 + n ≡ suc n
one_more n = omega arith

module _ {X : Type 0} (test : X → Bool) where
  passes_within : (xs : List X) (k : ℕ) (x : X) → slice_get xs k ≡ Some x → test x ≡ true → position_or_len test xs < length xs
  passes_within [] k x is passes = absurd (none-some x is)
  passes_within (y ∷ xs) zero x is passes = by (test y) (ap test (same_Some y x is) ∙ passes)
    where
      by : (b : Bool) → b ≡ true → cond (not b) (1 + prefix_len (λ z. not (test z)) xs) 0 < suc (length xs)
      by true e = omega arith
      by false e = absurd (true≢false (sym e))
  passes_within (y ∷ xs) (suc k) x is passes = by (test y) (passes_within xs k x is passes)
    where
      by : (b : Bool) → position_or_len test xs < length xs → cond (not b) (1 + prefix_len (λ z. not (test z)) xs) 0 < suc (length xs)
      by true l = omega arith
      by false l = omega (arith, l)

  passes_there : (xs : List X) → position_or_len test xs < length xs → (x : X) × ((slice_get xs (position_or_len test xs) ≡ Some x) × (test x ≡ true))
  passes_there [] l = absurd (omega (arith, l))
  passes_there (y ∷ xs) l = by (test y) refl l (passes_there xs)
    where
      by : (b : Bool) → test y ≡ b → cond (not b) (1 + prefix_len (λ z. not (test z)) xs) 0 < suc (length xs)
          → (position_or_len test xs < length xs → (x : X) × ((slice_get xs (position_or_len test xs) ≡ Some x) × (test x ≡ true)))
          → (x : X) × ((slice_get (y ∷ xs) (cond (not b) (1 + prefix_len (λ z. not (test z)) xs) 0) ≡ Some x) × (test x ≡ true))
      by true e l rest = (y, (refl, e))
      by false e l rest = let it = rest (omega (arith, l)) in (it.0, (ap (slice_get (y ∷ xs)) (one_more (position_or_len test xs)) ∙ it.1.0, it.1.1))

  pub position_at : (xs : List X) (k : ℕ) (x : X) → slice_get xs k ≡ Some x → test x ≡ true
      → (n : ℕ) × ((position test xs ≡ Some n) × ((y : X) × ((slice_get xs n ≡ Some y) × (test y ≡ true))))
  position_at xs k x is passes =
      let within = passes_within xs k x is passes in (
        position_or_len test xs,
        (
          ap (λ b. cond b (Some (position_or_len test xs)) None) (lt-ltb (position_or_len test xs) (length xs) within),
          passes_there xs within,
        ),
      )
