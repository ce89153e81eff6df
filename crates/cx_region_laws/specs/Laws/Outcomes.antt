-- Every step, every half-turn and every event has an outcome, and so has every list of events: over the definitions
-- alone, in every state, whatever memory there is.
use Rattle.std.specs.Prelude.{List}
use Rattle.std.specs.List.{AllByRecursion}
use Rattle.cx_exec.specs.declared.machine.Halt.{Halt}
use Rattle.cx_exec.specs.declared.machine.Step.{Step}
use Rattle.cx_exec.specs.Advance.{Advances}
use Rattle.cx_exec.specs.Machine.{Machine}
use Rattle.cx_exec.specs.Step.{Steps}
use Rattle.cx_region_state.specs.declared.replies.TurnReply.{TurnReply}
use Rattle.cx_region_state.specs.State.{TaskContext}
use Rattle.cx_region_task.specs.Turn.{HalfTurn, most_steps}
use Rattle.cx_region.specs.declared.replies.Event.{Event}
use Rattle.cx_region.specs.declared.replies.Reply.{Reply}
use Rattle.cx_region.specs.State.{RegionState}
use Rattle.cx_region.specs.Events.{Applies, Run}
use Rattle.cx_region_laws.specs.Laws.Sound.{IsChecked}

-- from each machine there is a step
pub record HasStep (m : Machine) : Type 0 where
  pub step : Step
  pub after : Machine
  pub steps : Steps m step after

-- from each machine there is a step
abbrev pub StepsHaveOutcomes : Type 0
StepsHaveOutcomes = (m : Machine) → HasStep m

-- and a run of at most as many instructions as a half-turn has
pub record HasHalt (m : Machine) : Type 0 where
  pub how : Halt
  pub after : Machine
  pub advances : Advances most_steps m how after

-- from each machine there is a run of at most 65,536 steps
abbrev pub AdvancesHaveOutcomes : Type 0
AdvancesHaveOutcomes = (m : Machine) → HasHalt m

-- each half-turn of a task has an end
pub record HasEnd (before : TaskContext) : Type 0 where
  pub reply : TurnReply
  pub after : TaskContext
  pub half_turn : HalfTurn before reply after

-- each half-turn has an end
abbrev pub HalfTurnsHaveEnds : Type 0
HalfTurnsHaveEnds = (before : TaskContext) → HasEnd before

-- each event has a reply, and a region after it
pub record HasOutcome (old : RegionState) (event : Event) : Type 0 where
  pub reply : Reply
  pub new : RegionState
  pub applies : Applies old event reply new

-- each event has an outcome
abbrev pub EventsHaveOutcomes : Type 0
EventsHaveOutcomes = (old : RegionState) (event : Event) → IsChecked event → HasOutcome old event

-- each list of events, images checked, is a run
pub record HasRun (old : RegionState) (events : List Event) : Type 0 where
  pub replies : List Reply
  pub new : RegionState
  pub run : Run old events replies new

-- each list of events, images checked, is a run
abbrev pub EventListsAreRuns : Type 0
EventListsAreRuns = (old : RegionState) (events : List Event) → AllByRecursion IsChecked events → HasRun old events
