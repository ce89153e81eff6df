-- The first items of a list.
use Rattle.std.proofs.Common.{◌≡◌, ℕ, zero, suc, ◌<◌, List, [], ◌∷◌, take, Some, arith}
use Rattle.std.specs.Prelude.{slice_get}
use Rattle.std.proofs.lemmas.Option.{none-some}

pub taken : {X : Type 0} (xs : List X) (n i : ℕ) (x : X) → i < n → slice_get xs i ≡ Some x → slice_get (take n xs) i ≡ Some x
taken xs zero i x l is = absurd (omega (arith, l))
taken [] (suc n) i x l is = absurd (none-some x is)
taken (y ∷ xs) (suc n) zero x l is = is
taken (y ∷ xs) (suc n) (suc i) x l is = taken xs n i x (omega (arith, l)) is

pub of_taken : {X : Type 0} (xs : List X) (n i : ℕ) (x : X) → slice_get (take n xs) i ≡ Some x → (i < n) × (slice_get xs i ≡ Some x)
of_taken xs zero i x is = absurd (none-some x is)
of_taken [] (suc n) i x is = absurd (none-some x is)
of_taken (y ∷ xs) (suc n) zero x is = (omega arith, is)
of_taken (y ∷ xs) (suc n) (suc i) x is = let it = of_taken xs n i x is in (omega (arith, it.0), it.1)
