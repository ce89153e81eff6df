-- The elements of a list from a place on.
use Rattle.std.specs.Prelude.{ℕ, zero, suc, ◌+◌, List, [], ◌∷◌, ◌++◌, drop, slice_get}
use Rattle.std.specs.List.{flat_map}
use Rattle.std.specs.Option.{option_map_or}
use Rattle.std.proofs.Common.{◌≡◌, refl, arith}

after : {X Y : Type 0} (f : X → List Y) (xs : List X) (i : ℕ) → option_map_or f (slice_get xs i) [] ++ flat_map f (drop (suc i) xs) ≡ flat_map f (drop i xs)
after f [] zero = refl
after f [] (suc i) = refl
after f (x ∷ xs) zero = refl
after f (x ∷ xs) (suc i) = after f xs i

pub one_more : {X Y : Type 0} (f : X → List Y) (xs : List X) (i : ℕ) → option_map_or f (slice_get xs i) [] ++ flat_map f (drop (i + 1) xs) ≡ flat_map f (drop i xs)
one_more f xs i = let next : i + 1 ≡ suc i = omega arith in rw next (after f xs i)
