-- Where a command is due, the current level keeps what its program has at it.
use Rattle.std.specs.Prelude.{◌≡◌, ℕ, true, List, Some}
use Rattle.cx_region_state.specs.State.{TaskState}
use Rattle.cx_region_laws.specs.Laws.Levels.{Keeps}
use Rattle.cx_region.specs.declared.replies.Event.{Event}
use Rattle.cx_region.specs.declared.replies.Reply.{Reply}
use Rattle.cx_region.specs.State.{RegionState}
use Rattle.cx_region.specs.Tables.{task_of}
use Rattle.cx_region.specs.Events.{Applies, Run}
use Rattle.cx_edf.specs.declared.answers.Answer.{Answer}
use Rattle.cx_edf.specs.declared.answers.EdfEvent.{EdfEvent}
use Rattle.cx_edf.specs.State.{EdfState}
use Rattle.cx_headline.specs.Laws.Runs.{state_after_first}

-- wherever a command of a terminal's task is due, the task's current level keeps the registers and the code of its
-- program
abbrev pub KeepsWhatIsDue : RegionState → Type 0
KeepsWhatIsDue region =
    (name : List ℕ) (task : TaskState) → task_of region name ≡ Some task → task.due ≡ true → Keeps task

-- each event of a region in which what is due is kept leaves it so, whatever the event is
abbrev pub EventsKeepWhatIsDue : Type 0
EventsKeepWhatIsDue = (old : RegionState) (event : Event) (reply : Reply) (new : RegionState)
    → KeepsWhatIsDue old → Applies old event reply new → KeepsWhatIsDue new

-- each run of events of a region leaves it so too
abbrev pub RunsKeepWhatIsDue : Type 0
RunsKeepWhatIsDue = (old : RegionState) (events : List Event) (replies : List Reply) (new : RegionState)
    → KeepsWhatIsDue old → Run old events replies new → KeepsWhatIsDue new

-- what is due is kept after each event of a run under EDF, and before the first
abbrev pub AlwaysKeepsWhatIsDue : EdfState → List EdfEvent → List Answer → List EdfState → Type 0
AlwaysKeepsWhatIsDue old events answers states = (n : ℕ) → KeepsWhatIsDue (state_after_first old states n).region

-- what is due is kept after each event of a run under EDF, where it was before the first
abbrev pub StillKeepsWhatIsDue : EdfState → List EdfEvent → List Answer → List EdfState → Type 0
StillKeepsWhatIsDue old events answers states =
    KeepsWhatIsDue old.region → AlwaysKeepsWhatIsDue old events answers states
