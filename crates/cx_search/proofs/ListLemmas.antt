-- The items of a list.
use Rattle.std.proofs.Common.{◌≡◌, ℕ, zero, suc, List, [], ◌∷◌, length, Some, refl, arith, ◌<◌}
use Rattle.std.specs.Prelude.{slice_get}

pub item_at : {X : Type 0} (xs : List X) (i : ℕ) → i < length xs → (x : X) × (slice_get xs i ≡ Some x)
item_at [] i below = absurd (omega (arith, below))
item_at (x ∷ xs) zero below = (x, refl)
item_at (x ∷ xs) (suc i) below = item_at xs i (omega (arith, below))
