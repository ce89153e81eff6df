-- What a search finds that tries no move from a state of more than so many moves (this product's own).
use Rattle.std.specs.Prelude.{◌≡◌, ℕ, ◌+◌, ◌≤◌, List, Some, length, slice_get}
use Rattle.cx_search.specs.declared.found.Origin.{Origin}
use Rattle.cx_search.specs.declared.within.Reach.{Reach}
use Rattle.cx_search.specs.declared.within.Reach.TheVariants.{Closed, Full, Open}
use Rattle.cx_search.specs.Finds.{FindsNearest, IsWhole}
use Rattle.cx_search.specs.Found.{IsFound}
use Rattle.cx_search.specs.Moves.{Leads}

module _ {State : Type 0} (Goes : State → ℕ → State → Type 0) (start : State) where
  -- a list of at most so many moves leads to the state
  pub record IsNear (moves : ℕ) (state : State) : Type 0 where
    pub list : List ℕ
    pub leads : Leads Goes start list state
    pub short : length list ≤ moves

  -- no list of any length leads to a state that no list of at most so many moves leads to
  abbrev pub IsClosed : ℕ → Type 0
  IsClosed moves = (list : List ℕ) (state : State) → Leads Goes start list state → IsNear moves state

  -- a list of one move more leads to a state that no list of at most so many leads to
  pub record IsOpen (moves : ℕ) : Type 0 where
    pub list : List ℕ
    pub state : State
    pub leads : Leads Goes start list state
    pub long : length list ≡ moves + 1
    pub new : IsNear moves state → ⊥

  module _ (found : List (State × Origin)) where
    -- each state was found that a list of at most one move more leads to, and none that has more
    pub record FindsWithin (moves : ℕ) : Type 0 where
      pub near : (state : State) → IsNear (moves + 1) state → IsFound found state
      pub far : (place : ℕ) (state : State) (origin : Origin) → slice_get found place ≡ Some (state, origin)
          → origin.moves ≤ moves + 1

    -- how far a search came, of which at most `most` states are kept, and that tries no move from a state of more than
    -- `moves` moves
    abbrev pub Reaches : List (List ℕ) → ℕ → ℕ → Reach → Type 0
    Reaches links most moves Closed = IsWhole Goes start found links × IsClosed moves
    Reaches links most moves Open = FindsWithin moves × IsOpen moves
    Reaches links most moves (Full many) = FindsNearest Goes start found most many × (many ≤ moves)
