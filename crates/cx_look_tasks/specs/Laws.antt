-- Who is reported as waiting, and that each text is one.
use Rattle.std.specs.Prelude.{◌≡◌, ℕ, List, Some}
use Rattle.cx_region_state.specs.declared.replies.TurnReply.{TurnReply}
use Rattle.cx_region_task.specs.Laws.Decisions.{is_wait_reply}
use Rattle.cx_region.specs.State.{RegionState, TerminalState}
use Rattle.cx_region.specs.Tables.{terminal_of}
use Rattle.cx_region.specs.Turn.{TakesTurn}
use Rattle.cx_look_lines.specs.Words.{Lines}
use Rattle.cx_look_tasks.specs.Activities.{IsActivity, is_waiting}
use Rattle.cx_look_tasks.specs.Tasks.{ResourcesText, TasksText, WaitsText}
use Rattle.cx_look_tasks.specs.declared.activities.Activity.{Activity}

-- a terminal is reported as waiting exactly where its next turn would be answered Waiting
abbrev pub WaitsAreReported : Type 0
WaitsAreReported = (region new : RegionState) (name : List ℕ) (terminal : TerminalState) (activity : Activity)
    (reply : TurnReply)
    → terminal_of region name ≡ Some terminal → IsActivity region terminal activity → TakesTurn region name reply new
    → is_wait_reply reply ≡ is_waiting activity

-- what a terminal's task is doing is determined
abbrev pub ActivitiesDecide : Type 0
ActivitiesDecide = (region : RegionState) (terminal : TerminalState) (one other : Activity)
    → IsActivity region terminal one → IsActivity region terminal other → one ≡ other

-- the text of TASKS is determined as a whole
abbrev pub TasksTextsDecide : Type 0
TasksTextsDecide = (region : RegionState) (one other : Lines)
    → TasksText region one → TasksText region other → one ≡ other

-- the text of RESOURCES is determined as a whole
abbrev pub ResourcesTextsDecide : Type 0
ResourcesTextsDecide = (region : RegionState) (one other : Lines)
    → ResourcesText region one → ResourcesText region other → one ≡ other

-- what is written of the tasks that wait is determined as a whole
abbrev pub WaitsTextsDecide : Type 0
WaitsTextsDecide = (region : RegionState) (one other : Lines)
    → WaitsText region one → WaitsText region other → one ≡ other
