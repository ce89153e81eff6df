-- Moves without an end, and states from which no rest can be come to (this product's own).
use Rattle.std.specs.Prelude.{ℕ, ◌<◌, ◌≤◌, List, ◌∷◌, length}
use Rattle.cx_search.specs.declared.found.Origin.{Origin}
use Rattle.cx_search.specs.Found.{IsAt}
use Rattle.cx_search.specs.Moves.{Leads}

module _ {State : Type 0} (Goes : State → ℕ → State → Type 0) where
  -- no move can be made
  abbrev pub AtRest : State → Type 0
  AtRest state = (number : ℕ) (to : State) → Goes state number to → ⊥

  -- a list of moves leads from the state to one at rest
  pub record CanRest (from : State) : Type 0 where
    pub moves : List ℕ
    pub to : State
    pub leads : Leads Goes from moves to
    pub rest : AtRest to

  -- one move or more lead from the state to itself
  pub record Loops (state : State) : Type 0 where
    pub number : ℕ
    pub moves : List ℕ
    pub leads : Leads Goes state (number ∷ moves) state

  -- no list of moves from the state is longer
  pub record IsBounded (from : State) : Type 0 where
    pub most : ℕ
    pub bounded : (moves : List ℕ) (to : State) → Leads Goes from moves to → length moves ≤ most

  -- a list of so many moves, or more
  pub record IsLong (from : State) (least : ℕ) : Type 0 where
    pub moves : List ℕ
    pub to : State
    pub leads : Leads Goes from moves to
    pub long : least ≤ length moves

-- a place of a state of which that holds
pub record IsPlaceOf {State : Type 0} (Holds : State → Type 0) (found : List (State × Origin)) (place : ℕ)
    : Type 0 where
  pub state : State
  pub at : IsAt found place state
  pub is : Holds state

-- the first of these places
pub record IsFirstPlaceOf {State : Type 0} (Holds : State → Type 0) (found : List (State × Origin)) (place : ℕ)
    : Type 0 where
  pub is : IsPlaceOf Holds found place
  pub first : (other : ℕ) (state : State) → other < place → IsAt found other state → Holds state → ⊥
