-- Where moves lead from the states that were found, by places (own).
use Rattle.std.specs.Prelude.{◌≡◌, ℕ, List, Some, length, slice_get}
use Rattle.cx_search.specs.declared.found.Origin.{Origin}
use Rattle.cx_search.specs.Found.{IsAt}

module _ {State : Type 0} (Goes : State → ℕ → State → Type 0) (found : List (State × Origin)) where
  -- a move from the state leads to the place
  pub record LeadsTo (state : State) (to : ℕ) : Type 0 where
    pub number : ℕ
    pub next : State
    pub at : IsAt found to next
    pub goes : Goes state number next

  -- the state is at one of the places
  pub record IsAmong (nexts : List ℕ) (state : State) : Type 0 where
    pub index : ℕ
    pub to : ℕ
    pub among : slice_get nexts index ≡ Some to
    pub at : IsAt found to state

  -- the places that moves from a state lead to
  pub record AreNexts (state : State) (nexts : List ℕ) : Type 0 where
    pub each : (index to : ℕ) → slice_get nexts index ≡ Some to → LeadsTo state to
    pub all : (number : ℕ) (next : State) → Goes state number next → IsAmong nexts next

  -- of each of the first states, of which there are so many, the places that moves lead to
  pub record AreLinked (links : List (List ℕ)) (done : ℕ) : Type 0 where
    pub many : length links ≡ done
    pub nexts : (place : ℕ) (state : State) (nexts : List ℕ) → slice_get links place ≡ Some nexts
        → IsAt found place state
        → AreNexts state nexts
