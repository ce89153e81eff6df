-- The outcomes of orders: what is to be seen of the states at rest that they lead to (this product's own).
use Rattle.std.specs.Prelude.{◌≡◌, ℕ, ◌+◌, ◌<◌, ◌≤◌, List, Option, Some, None, length, slice_get}
use Rattle.cx_search.specs.Forever.{AtRest, CanRest, IsBounded, Loops}
use Rattle.cx_search.specs.Moves.{IsSooner, Leads}
use Rattle.cx_search.specs.Rest.{IsNear}
use Rattle.cx_region.specs.State.{RegionState}
use Rattle.cx_look_lines.specs.Words.{Lines}
use Rattle.cx_orders.specs.Moves.{Moves}
use Rattle.cx_orders.specs.declared.states.KeyLine.{KeyLine}
use Rattle.cx_orders.specs.declared.states.Keys.{Keys}
use Rattle.cx_orders.specs.declared.states.OrdersState.{OrdersState}
use Rattle.cx_look_orders.specs.Rest.{RestText}
use Rattle.cx_look_steps.specs.Steps.{AreSteps, NoLater, Telling, moves_of}
use Rattle.cx_look_steps.specs.declared.steps.Step.{Step}
use Rattle.cx_look_orders.specs.declared.outcomes.Outcome.{Outcome}

-- one of the outcomes has that text
pub record HasText (outcomes : List Outcome) (text : Lines) : Type 0 where
  pub place : ℕ
  pub one : Outcome
  pub at : slice_get outcomes place ≡ Some one
  pub same : one.text ≡ text

-- one of the outcomes has the text that is written of the state
pub record IsWritten (Shows : RegionState → Lines → Type 0) (keys : List KeyLine) (outcomes : List Outcome)
    (state : OrdersState) : Type 0 where
  pub place : ℕ
  pub one : Outcome
  pub at : slice_get outcomes place ≡ Some one
  pub shows : RestText Shows keys state one.text

-- ---- what lists of moves end with
module _ (Shows : RegionState → Lines → Type 0) (keys : Keys) (start : OrdersState) where
  -- the list of moves ends at rest, and that is written of it
  pub record EndsWith (moves : List ℕ) (text : Lines) : Type 0 where
    pub to : OrdersState
    pub leads : Leads (Moves keys) start moves to
    pub rest : AtRest (Moves keys) to
    pub shows : RestText Shows keys.lines to text

-- ---- outcomes
module _ (Shows : RegionState → Lines → Type 0) (tells : Telling) (keys : Keys) (start : OrdersState) where
  -- an outcome: what is written of the state that its steps end with, at rest, the soonest of the lists that end with
  -- that text; it has at most so many moves, where they are limited
  pub record IsOutcome (cut : Option ℕ) (one : Outcome) : Type 0 where
    pub to : OrdersState
    pub steps : AreSteps tells keys start one.steps to
    pub rest : AtRest (Moves keys) to
    pub shows : RestText Shows keys.lines to one.text
    pub near : IsNear cut (length one.steps)
    pub soonest : (moves : List ℕ) → EndsWith Shows keys start moves one.text
        → NoLater (moves_of one.steps) moves

  -- All outcomes of lists of at most so many moves, where they are limited: none is missed, and each state at rest has
  -- one; in the order of their lists.
  pub record AreOutcomes (cut : Option ℕ) (outcomes : List Outcome) : Type 0 where
    pub each : (place : ℕ) (one : Outcome) → slice_get outcomes place ≡ Some one → IsOutcome cut one
    pub all : (moves : List ℕ) (text : Lines) → EndsWith Shows keys start moves text → IsNear cut (length moves)
        → HasText outcomes text
    pub written : (moves : List ℕ) (to : OrdersState) → Leads (Moves keys) start moves to → AtRest (Moves keys) to
        → IsNear cut (length moves) → IsWritten Shows keys.lines outcomes to
    pub ordered : (j k : ℕ) (one other : Outcome) → j < k → slice_get outcomes j ≡ Some one
        → slice_get outcomes k ≡ Some other
        → IsSooner (moves_of one.steps) (moves_of other.steps)

-- ---- states that lists of moves lead to
module _ (keys : Keys) (start : OrdersState) where
  -- a list of at most so many moves leads to the state, where they are limited
  pub record IsReached (cut : Option ℕ) (state : OrdersState) : Type 0 where
    pub moves : List ℕ
    pub leads : Leads (Moves keys) start moves state
    pub near : IsNear cut (length moves)

  -- each of the states is reached so, and stands there once
  pub record AreReached (cut : Option ℕ) (states : List OrdersState) : Type 0 where
    pub each : (place : ℕ) (state : OrdersState) → slice_get states place ≡ Some state → IsReached cut state
    pub once : (one other : ℕ) (state : OrdersState) → slice_get states one ≡ Some state
        → slice_get states other ≡ Some state → one ≡ other

  -- the state is one of those
  pub record IsOneOf (states : List OrdersState) (state : OrdersState) : Type 0 where
    pub place : ℕ
    pub at : slice_get states place ≡ Some state

  -- each state is there that is reached so
  abbrev pub HasReached : Option ℕ → List OrdersState → Type 0
  HasReached cut states = (state : OrdersState) → IsReached cut state → IsOneOf states state

  -- there are so many states that lists of moves lead to
  pub record HasStates (many : ℕ) : Type 0 where
    pub states : List OrdersState
    pub reached : AreReached None states
    pub all : HasReached None states
    pub is : many ≡ length states

  -- at most so many states are reached by at most so many moves, and more by one move more
  pub record IsCutAt (most moves : ℕ) : Type 0 where
    pub near : List OrdersState
    pub all : HasReached (Some moves) near
    pub few : length near ≤ most
    pub more : List OrdersState
    pub reached : AreReached (Some (moves + 1)) more
    pub many : most < length more

-- ---- moves without an end
module _ (tells : Telling) (keys : Keys) (start : OrdersState) where
  -- the steps lead to a state that is come to again from itself, and no list is sooner that leads to such a state
  pub record LoopsFirst (steps : List Step) : Type 0 where
    pub to : OrdersState
    pub are : AreSteps tells keys start steps to
    pub loops : Loops (Moves keys) to
    pub soonest : (moves : List ℕ) (there : OrdersState) → Leads (Moves keys) start moves there
        → Loops (Moves keys) there
        → NoLater (moves_of steps) moves

  -- such steps, or no list of moves is longer than some number
  abbrev pub MayLoop : Option (List Step) → Type 0
  MayLoop None = IsBounded (Moves keys) start
  MayLoop (Some steps) = LoopsFirst steps

module _ (keys : Keys) (start : OrdersState) where
  -- a list of moves leads to a state from which none leads to rest
  pub record IsStuck : Type 0 where
    pub moves : List ℕ
    pub there : OrdersState
    pub leads : Leads (Moves keys) start moves there
    pub never : CanRest (Moves keys) there → ⊥

  -- from each state that a list of moves leads to one leads to rest
  abbrev pub AllCanRest : Type 0
  AllCanRest =
      (moves : List ℕ) (there : OrdersState) → Leads (Moves keys) start moves there → CanRest (Moves keys) there
