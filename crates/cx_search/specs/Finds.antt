-- What a search finds (this product's own).
use Rattle.std.specs.Prelude.{◌≡◌, ℕ, ◌+◌, ◌<◌, ◌≤◌, List, Some, length, slice_get}
use Rattle.cx_search.specs.declared.found.Origin.{Origin}
use Rattle.cx_search.specs.Moves.{IsSooner, IsFirst, Leads}
use Rattle.cx_search.specs.Nexts.{AreLinked}
use Rattle.cx_search.specs.Found.{IsAt, IsFound, Searched}

module _ {State : Type 0} (Goes : State → ℕ → State → Type 0) (start : State) (found : List (State × Origin)) where
  -- a list of moves leads to the state, the soonest of those that do; it has as many moves as are kept with the state
  pub record IsLedTo (state : State) (origin : Origin) : Type 0 where
    pub moves : List ℕ
    pub first : IsFirst Goes start moves state
    pub many : length moves ≡ origin.moves

  -- Each state that was found is led to, and stands once, in the order of the lists that lead there first.
  pub record Finds : Type 0 where
    pub begins : IsAt found 0 start
    pub led : (place : ℕ) (state : State) (origin : Origin) → slice_get found place ≡ Some (state, origin)
        → IsLedTo state origin
    pub once : (one other : ℕ) (state : State) → IsAt found one state → IsAt found other state → one ≡ other
    pub ordered : (one other : ℕ) (s t : State) (ms ns : List ℕ) → one < other → IsAt found one s → IsAt found other t
        → IsFirst Goes start ms s → IsFirst Goes start ns t → IsSooner ms ns
    pub done : ℕ
    pub tried : ℕ
    pub searched : Searched Goes found done tried

  -- None is missed: each state that a list of moves leads to was found.
  abbrev pub FindsAll : Type 0
  FindsAll = (moves : List ℕ) (state : State) → Leads Goes start moves state → IsFound found state

  -- The search is whole: none is missed, and of each the places are kept that moves lead to.
  pub record IsWhole (links : List (List ℕ)) : Type 0 where
    pub all : FindsAll
    pub done : ℕ
    pub enough : length found ≤ done
    pub linked : AreLinked Goes found links done

  -- Each state was found that a list of at most so many moves leads to; those that were found have at most one move
  -- more, are as many as may be kept, and aren't all of these.
  pub record FindsNearest (most moves : ℕ) : Type 0 where
    pub near : (list : List ℕ) (state : State) → Leads Goes start list state → length list ≤ moves → IsFound found state
    pub far : (place : ℕ) (state : State) (origin : Origin) → slice_get found place ≡ Some (state, origin)
        → origin.moves ≤ moves + 1
    pub full : most ≤ length found
    pub list : List ℕ
    pub more : State
    pub leads : Leads Goes start list more
    pub long : length list ≡ moves + 1
    pub new : (place : ℕ) → IsAt found place more → ⊥
