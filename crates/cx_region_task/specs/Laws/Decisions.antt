-- What is decided of the command that is due: it is determined, and says who waits.
use Rattle.std.specs.Prelude.{◌≡◌, Bool, true, false, MatchBool}
use Rattle.cx_region_state.specs.declared.replies.TurnReply.{TurnReply}
use Rattle.cx_region_state.specs.declared.replies.TurnReply.TheVariants as turn
use Rattle.cx_region_state.specs.State.{TaskContext}
use Rattle.cx_region_task.specs.declared.decision.Decision.{Decision}
use Rattle.cx_region_task.specs.Decisions.{waits}
use Rattle.cx_region_task.specs.Performing.{Decides}
use Rattle.cx_region_task.specs.Turn.{HalfTurn}

-- what was reached before a half-turn decides what is decided
abbrev pub DecisionsDecide : Type 0
DecisionsDecide = (r : TaskContext) (one other : Decision) → Decides r one → Decides r other → one ≡ other

abbrev pub is_wait_reply : TurnReply → Bool
is_wait_reply turn.Waiting = true
is_wait_reply _ = false

-- a half-turn is answered Waiting exactly where a command is due of which it is decided that it waits
abbrev pub WaitsAreDecided : Type 0
WaitsAreDecided = (before after : TaskContext) (reply : TurnReply) → HalfTurn before reply after
    → MatchBool before.task.due ((decided : Decision) → Decides before decided → is_wait_reply reply ≡ waits decided)
    (is_wait_reply reply ≡ false)
