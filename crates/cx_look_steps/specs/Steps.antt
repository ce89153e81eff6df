-- What each move of a list is: a turn of a terminal, or its next key (this product's own).
use Rattle.std.specs.Prelude.{◌≡◌, ◌⊎◌, ℕ, if◌then◌else◌, is_none, List, [], ◌∷◌, MatchOption, Option, Some, None, map, slice_get}
use Rattle.cx_search.specs.Moves.{IsSooner}
use Rattle.cx_region.specs.State.{RegionState, TerminalState}
use Rattle.cx_region_state.specs.declared.replies.TurnReply.{TurnReply}
use Rattle.cx_orders.specs.Moves.{KeyMoves, TurnMoves, key_number, turn_number}
use Rattle.cx_orders.specs.declared.states.Keys.{Keys}
use Rattle.cx_orders.specs.declared.states.OrdersState.{OrdersState}
use Rattle.cx_look_steps.specs.declared.steps.Step.{Step}

-- what is told of a turn, by the region before it, the terminal's name and its reply
abbrev pub Telling : Type 0
Telling = RegionState → List ℕ → TurnReply → Option (List ℕ)

-- a turn of the terminal, of which that is told
pub record TurnIsTold (tells : Telling) (from : OrdersState) (number : ℕ) (name : List ℕ) (told : Option (List ℕ))
    (to : OrdersState) : Type 0 where
  pub turn : TurnMoves from number name to
  pub is : told ≡ tells from.region name turn.reply

-- a move of the terminal with that number: its key before which so many of its keys came, of which nothing is told, or
-- a turn
pub record IsStep (tells : Telling) (keys : Keys) (from : OrdersState) (step : Step) (to : OrdersState) : Type 0 where
  pub name : List ℕ
  pub terminal : TerminalState
  pub at : slice_get from.region.terminals step.number ≡ Some (name, terminal)
  pub came : ℕ
  pub come : slice_get from.come step.number ≡ Some came
  pub move : MatchOption step.key (TurnIsTold tells from step.number name step.told to)
      (λ before. (before ≡ came) × KeyMoves keys from step.number name terminal came to × (step.told ≡ None))

-- a step, and then what is said of the state between
pub record Then (tells : Telling) (keys : Keys) (Rest : OrdersState → Type 0) (from : OrdersState) (step : Step)
    : Type 0 where
  pub between : OrdersState
  pub is : IsStep tells keys from step between
  pub rest : Rest between

-- the steps lead from a state to a state
unfoldable pub AreSteps : Telling → Keys → OrdersState → List Step → OrdersState → Type 0
AreSteps tells keys from [] to = to ≡ from
AreSteps tells keys from (step ∷ steps) to = Then tells keys (λ between. AreSteps tells keys between steps to) from step

-- the number that a step has as a move
abbrev pub move_number : Step → ℕ
move_number step = if is_none step.key then turn_number step.number else key_number step.number

-- as a list of moves
abbrev pub moves_of : List Step → List ℕ
moves_of steps = map (λ (step : Step). move_number step) steps

-- the list is the same as the other, or sooner
abbrev pub NoLater : List ℕ → List ℕ → Type 0
NoLater one other = (one ≡ other) ⊎ IsSooner one other
