-- Every event under EDF has an outcome, and every list of events is a run: over the definitions alone, in every state,
-- whatever memory there is and whatever displays are.
use Rattle.std.specs.Prelude.{List}
use Rattle.std.specs.List.{AllByRecursion}
use Rattle.cx_edf.specs.declared.answers.EdfEvent.{EdfEvent}
use Rattle.cx_edf.specs.declared.answers.Answer.{Answer}
use Rattle.cx_edf.specs.State.{EdfState}
use Rattle.cx_edf.specs.Steps.{DisplayMaker, EdfApplies}
use Rattle.cx_edf.specs.Runs.{Trace}
use Rattle.cx_edf.specs.Laws.Memory.{IsCheckedEdf}

-- there is an answer to the event, and a state after it
pub record HasOutcomeEdf (make : DisplayMaker) (old : EdfState) (e : EdfEvent) : Type 0 where
  pub given : Answer
  pub new : EdfState
  pub applies : EdfApplies make old e given new

-- each event under EDF has an outcome
abbrev pub EdfEventsHaveOutcomes : Type 0
EdfEventsHaveOutcomes = (make : DisplayMaker) (old : EdfState) (e : EdfEvent) → IsCheckedEdf e
    → HasOutcomeEdf make old e

-- there are answers to the events, and a state after each
pub record HasTrace (make : DisplayMaker) (old : EdfState) (events : List EdfEvent) : Type 0 where
  pub answers : List Answer
  pub states : List EdfState
  pub trace : Trace make old events answers states

-- each list of events under EDF, images checked, is a run
abbrev pub EdfEventListsAreRuns : Type 0
EdfEventListsAreRuns = (make : DisplayMaker) (old : EdfState) (events : List EdfEvent)
    → AllByRecursion IsCheckedEdf events → HasTrace make old events
