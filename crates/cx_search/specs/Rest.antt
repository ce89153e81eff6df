-- The states at rest that a search found (this product's own).
use Rattle.std.specs.Prelude.{◌≡◌, ℕ, ◌<◌, ◌≤◌, List, Option, Some, None, ⊤, slice_get}
use Rattle.cx_search.specs.declared.found.Origin.{Origin}
use Rattle.cx_search.specs.Forever.{AtRest}

-- at most so many moves, where they are limited
abbrev pub IsNear : Option ℕ → ℕ → Type 0
IsNear None moves = ⊤
IsNear (Some most) moves = moves ≤ most

module _ {State : Type 0} (Goes : State → ℕ → State → Type 0) (found : List (State × Origin)) (cut : Option ℕ) where
  -- the state at the place is at rest
  pub record IsResting (place : ℕ) : Type 0 where
    pub state : State
    pub origin : Origin
    pub there : slice_get found place ≡ Some (state, origin)
    pub near : IsNear cut origin.moves
    pub rest : AtRest Goes state

  -- the place is one of these
  pub record IsListed (places : List ℕ) (place : ℕ) : Type 0 where
    pub index : ℕ
    pub at : slice_get places index ≡ Some place

  -- these are the places of all states at rest, in their order
  pub record AreResting (places : List ℕ) : Type 0 where
    pub each : (index place : ℕ) → slice_get places index ≡ Some place → IsResting place
    pub all : (place : ℕ) → IsResting place → IsListed places place
    pub ordered : (one other p q : ℕ) → one < other → slice_get places one ≡ Some p → slice_get places other ≡ Some q
        → p < q
