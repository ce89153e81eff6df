-- How the literals of a pool are placed (GC33-4010, "Literal Pool").
use Rattle.std.specs.Prelude.{◌≡◌, ◌≤◌, ℕ, ◌+◌, ◌%◌, [], ◌∷◌}
use Rattle.std.specs.List.{AllByRecursion, IsDistinct}
use Rattle.std.specs.Map.{keys_of}
use Rattle.std.specs.Str.{bytes_eq}
use Rattle.cx_asm_pools.specs.Pools.{OpenLiterals, PlacedLiterals, group_of, literal_size}

-- The literals of an open pool: each text once, with the size that it writes.
pub record IsPool (pool : OpenLiterals) : Type 0 where
  pub once : IsDistinct bytes_eq (keys_of pool)
  pub sizes : AllByRecursion (λ e. e.1.size ≡ literal_size e.0) pool

-- Literals of a group and those below it that lie from an offset to an end: each at the end of the one before it, on a
-- multiple of its own group, which isn't above the one before it.
abbrev pub StandFrom : ℕ → ℕ → PlacedLiterals → ℕ → Type 0
StandFrom group from [] end = from ≡ end
StandFrom group from (e ∷ es) end =
    (e.1.offset ≡ from) × (from % group_of (literal_size e.0) ≡ 0) × (group_of (literal_size e.0) ≤ group)
    × StandFrom (group_of (literal_size e.0)) (from + literal_size e.0) es end

-- A pool from an offset to an end: each text once, and the literals of its groups one after the other.
pub record StandApart (from : ℕ) (pool : PlacedLiterals) (end : ℕ) : Type 0 where
  pub once : IsDistinct bytes_eq (keys_of pool)
  pub stand : StandFrom 8 from pool end
