-- What follows of the steps that lead to a state, and of their lines.
use Rattle.std.specs.Prelude.{◌≡◌, ℕ, ◌+◌, ◌<◌, true, List, [], ◌∷◌, Option, Some, None, MatchOption, length, map, option_map, slice_get}
use Rattle.std.specs.Option.{option_and_then, option_map_or}
use Rattle.std.specs.List.{AllByRecursion, filter_map, flat_map}
use Rattle.std.specs.Map.{keys_of as names_of}
use Rattle.cx_look_lines.specs.Words.{Lines}
use Rattle.cx_region.specs.Events.{Run}
use Rattle.cx_region.specs.State.{RegionState}
use Rattle.cx_region.specs.declared.replies.Event.{Event}
use Rattle.cx_region.specs.declared.replies.Event.TheVariants as event
use Rattle.cx_region.specs.declared.replies.Reply.{Reply}
use Rattle.cx_region.specs.declared.replies.Reply.TheVariants as reply
use Rattle.cx_orders.specs.Laws.{IsOrder}
use Rattle.cx_orders.specs.Moves.{is_move, keys_of}
use Rattle.cx_orders.specs.declared.states.KeyLine.{KeyLine}
use Rattle.cx_orders.specs.declared.states.Keys.{Keys}
use Rattle.cx_orders.specs.declared.states.OrdersState.{OrdersState}
use Rattle.cx_look_steps.specs.Script.{key_line, row_lines, steps_lines}
use Rattle.cx_look_steps.specs.declared.script.Row.{Row}
use Rattle.cx_look_steps.specs.Steps.{AreSteps, Telling}
use Rattle.cx_look_steps.specs.declared.steps.Step.{Step}

-- the event of a terminal: a turn, or its key before which so many of its keys came
abbrev pub event_at : List KeyLine → List ℕ → Option ℕ → Option Event
event_at keys name None = Some (event.Turn name)
event_at keys name (Some came) =
    option_map (λ (key : KeyLine). event.Key name key.aid key.bytes) (slice_get (keys_of keys name) came)

-- the event that a step is, where the terminals have those names
abbrev pub event_of_step : List (List ℕ) → List KeyLine → Step → Option Event
event_of_step names keys step = option_and_then (λ name. event_at keys name step.key) (slice_get names step.number)

-- a turn is answered as that of a move
abbrev pub IsMoveReply : Reply → Type 0
IsMoveReply (reply.Turn given) = is_move given ≡ true
IsMoveReply _ = Unit {0}

-- a run of the events that steps are, each a key, or a turn that is a move
pub record IsRunOf (keys : List KeyLine) (from : OrdersState) (steps : List Step) (to : OrdersState) : Type 0 where
  pub events : List Event
  pub replies : List Reply
  pub are : map (event_of_step (names_of from.region.terminals) keys) steps ≡ map Some events
  pub orders : AllByRecursion IsOrder events
  pub moves : AllByRecursion IsMoveReply replies
  pub run : Run from.region events replies to.region

-- where steps lead, the run of their turns and keys leads the region, without EDF
abbrev pub StepsAreRuns : Type 0
StepsAreRuns =
    (tells : Telling) (keys : Keys) (from to : OrdersState) (steps : List Step) → AreSteps tells keys from steps to
    → IsRunOf keys.lines from steps to

-- ---- the lines of a script
-- a line asks for a step, and others in a row with it, with what is told of them
abbrev pub asked_steps : Step × List Step → List Step
asked_steps (step, others) = step ∷ others

abbrev pub asked_row : Step × List Step → Row
asked_row (step, others) =
    record { number = step.number; many = length others + 1; told = filter_map (λ (s : Step). s.told) (step ∷ others) }

abbrev pub asked_lines : RegionState → List KeyLine → Step × List Step → Lines
asked_lines region keys (step, others) =
    option_map_or (λ came. key_line region keys step) step.key (row_lines region (Some (asked_row (step, others))))

abbrev pub IsTurnOf : ℕ → Step → Type 0
IsTurnOf number step = (step.number ≡ number) × (step.key ≡ None)

-- a key alone, or at most 4,096 turns of one terminal
abbrev pub IsStepAsked : Step × List Step → Type 0
IsStepAsked (step, others) =
    MatchOption step.key (AllByRecursion (IsTurnOf step.number) others × (length others < 4096)) (λ came. others ≡ [])

-- the lines ask for these steps, one after another
pub record AskFor (region : RegionState) (keys : List KeyLine) (lines : Lines) (steps : List Step) : Type 0 where
  pub asked : List (Step × List Step)
  pub each : AllByRecursion IsStepAsked asked
  pub written : lines ≡ flat_map (asked_lines region keys) asked
  pub done : flat_map asked_steps asked ≡ steps

abbrev pub ScriptsAskForSteps : Type 0
ScriptsAskForSteps = (region : RegionState) (keys : List KeyLine) (steps : List Step)
    → AskFor region keys (steps_lines region keys None steps) steps
