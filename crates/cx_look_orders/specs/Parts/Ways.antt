-- Steps that lead to a state, and the outcomes of the first places of states at rest.
use Rattle.std.specs.Prelude.{◌≡◌, ℕ, ◌/◌, ◌<◌, ◌==◌, if◌then◌else◌, List, Option, Some, None, get_or, length, slice_get}
use Rattle.std.specs.Option.{option_and_then}
use Rattle.cx_search.specs.declared.found.Origin.{Origin}
use Rattle.cx_search.specs.Found.{IsAt, IsFound}
use Rattle.cx_search.specs.Moves.{IsFirst, IsSooner, Leads}
use Rattle.cx_search.specs.Rest.{IsNear}
use Rattle.cx_region.specs.State.{RegionState, TerminalState}
use Rattle.cx_region.specs.Turn.{TakesTurn}
use Rattle.cx_region_state.specs.declared.replies.TurnReply.{TurnReply}
use Rattle.cx_look_lines.specs.Words.{Lines}
use Rattle.cx_orders.specs.Moves.{Moves}
use Rattle.cx_orders.specs.declared.states.Keys.{Keys}
use Rattle.cx_orders.specs.declared.states.OrdersState.{OrdersState}
use Rattle.cx_look_orders.specs.Outcomes.{HasText, IsWritten}
use Rattle.cx_look_orders.specs.Rest.{RestText}
use Rattle.cx_look_steps.specs.Steps.{AreSteps, Telling, moves_of}
use Rattle.cx_look_orders.specs.declared.outcomes.Outcome.{Outcome}
use Rattle.cx_look_steps.specs.declared.steps.Step.{Step}

-- how many keys had come before one that came between, by how many of each terminal came before and after
abbrev pub came_between : List ℕ → List ℕ → ℕ → Option ℕ
came_between before after number =
    option_and_then (λ came. if get_or after number 0 == came then None else Some came) (slice_get before number)

-- what is told of a move from a state, of the terminal with that number: of a turn, by its reply
abbrev pub IsTold : Telling → OrdersState → ℕ → Option ℕ → Option (List ℕ) → Type 0
IsTold tells from number (Some came) told = told ≡ None
IsTold tells from number None told =
    (name : List ℕ) (terminal : TerminalState) (reply : TurnReply) (after : RegionState)
    → slice_get from.region.terminals number ≡ Some (name, terminal) → TakesTurn from.region name reply after
    → told ≡ tells from.region name reply

-- the step is that of the move with a number between two states
pub record IsStepBetween (tells : Telling) (from : OrdersState) (move : ℕ) (to : OrdersState) (step : Step)
    : Type 0 where
  pub number : step.number ≡ move / 2
  pub key : step.key ≡ came_between from.come to.come (move / 2)
  pub told : IsTold tells from step.number step.key step.told

-- the steps are those of a list of moves, and lead to a state
pub record AreStepsOf (tells : Telling) (keys : Keys) (from : OrdersState) (moves : List ℕ) (to : OrdersState)
    (steps : List Step) : Type 0 where
  pub are : AreSteps tells keys from steps to
  pub of : moves_of steps ≡ moves

-- the steps of the soonest list that leads to a state
pub record AreFirstSteps (tells : Telling) (keys : Keys) (from to : OrdersState) (steps : List Step) : Type 0 where
  pub are : AreSteps tells keys from steps to
  pub first : IsFirst (Moves keys) from (moves_of steps) to

-- the places are in their order
abbrev pub AreSorted : List ℕ → Type 0
AreSorted places =
    (one other p q : ℕ) → one < other → slice_get places one ≡ Some p → slice_get places other ≡ Some q → p < q

-- each state that a list of at most so many moves leads to was found, where they are limited
abbrev pub Reaches : Keys → OrdersState → List (OrdersState × Origin) → Option ℕ → Type 0
Reaches keys start found cut =
    (moves : List ℕ) (state : OrdersState) → Leads (Moves keys) start moves state → IsNear cut (length moves)
    → IsFound found state

module _ (Shows : RegionState → Lines → Type 0) (keys : Keys) (start : OrdersState)
    (found : List (OrdersState × Origin))
    (places : List ℕ) where
  -- what is written of the state at one of the places
  pub record IsTextAt (index : ℕ) (text : Lines) : Type 0 where
    pub place : ℕ
    pub there : slice_get places index ≡ Some place
    pub state : OrdersState
    pub at : IsAt found place state
    pub shows : RestText Shows keys.lines state text

module _ (Shows : RegionState → Lines → Type 0) (tells : Telling) (keys : Keys) (start : OrdersState)
    (found : List (OrdersState × Origin))
    (places : List ℕ) where
  -- an outcome of one of the first places, and of none before it
  pub record IsOfFirst (many : ℕ) (one : Outcome) : Type 0 where
    pub index : ℕ
    pub below : index < many
    pub text : IsTextAt Shows keys start found places index one.text
    pub steps : AreFirstSteps tells keys start text.state one.steps
    pub new : (other : ℕ) → other < index → IsTextAt Shows keys start found places other one.text → ⊥

  -- the outcomes of the first places
  pub record AreOfFirst (many : ℕ) (outcomes : List Outcome) : Type 0 where
    pub each : (k : ℕ) (one : Outcome) → slice_get outcomes k ≡ Some one → IsOfFirst many one
    pub all : (index : ℕ) (text : Lines) → index < many → IsTextAt Shows keys start found places index text
        → HasText outcomes text
    pub written : (index place : ℕ) (state : OrdersState) → index < many → slice_get places index ≡ Some place
        → IsAt found place state → IsWritten Shows keys.lines outcomes state
    pub ordered : (j k : ℕ) (one other : Outcome) → j < k → slice_get outcomes j ≡ Some one
        → slice_get outcomes k ≡ Some other
        → IsSooner (moves_of one.steps) (moves_of other.steps)
