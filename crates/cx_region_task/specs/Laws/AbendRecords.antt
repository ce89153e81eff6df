-- What is reported of why a half-turn leads to an abend: it is determined, and it explains the reply.
use Rattle.std.specs.Prelude.{◌≡◌, ℕ, Bool, true, false, List, Option, Some, None, ⊤}
use Rattle.cx_base.specs.declared.abends.Abend.TheVariants as abend
use Rattle.cx_base.specs.Abends.{abend_code}
use Rattle.cx_program.specs.Handles.{condition_abend_code as condition_code}
use Rattle.cx_region_state.specs.declared.replies.TurnReply.{TurnReply}
use Rattle.cx_region_state.specs.declared.replies.TurnReply.TheVariants as turn
use Rattle.cx_region_state.specs.State.{TaskContext}
use Rattle.cx_region_task.specs.declared.cause.Cause.{Cause}
use Rattle.cx_region_task.specs.declared.cause.Cause.TheVariants as cause
use Rattle.cx_region_task.specs.declared.cause.AbendRecord.{AbendRecord}
use Rattle.cx_region_task.specs.Turn.{HalfTurn, HasAbendRecord}

-- what was reached before a half-turn decides what is reported
abbrev pub AbendRecordsDecide : Type 0
AbendRecordsDecide =
    (before : TaskContext) (one other : Option AbendRecord) → HasAbendRecord before one → HasAbendRecord before other
    → one ≡ other

-- a cause leads to an abend with this code; one that the program asked for has any
abbrev pub IsCodeOf : Cause → List ℕ → Type 0
IsCodeOf (cause.Interrupted interruption) code = code ≡ abend_code abend.Asra
IsCodeOf cause.Limit code = code ≡ abend_code abend.Aica
IsCodeOf (cause.Refused refusal) code = code ≡ abend_code refusal
IsCodeOf (cause.Met condition) code = code ≡ condition_code condition
IsCodeOf cause.Asked code = ⊤

-- an abend: an exit took it, or the task ended by it
abbrev pub is_abend : TurnReply → Bool
is_abend (turn.TookExit code) = true
is_abend (turn.Abended code) = true
is_abend _ = false

-- a record explains an abend, whose code its cause leads to; any other reply has none
abbrev pub Explains : Option AbendRecord → TurnReply → Type 0
Explains None reply = is_abend reply ≡ false
Explains (Some abend_record) (turn.TookExit code) = IsCodeOf abend_record.cause code
Explains (Some abend_record) (turn.Abended code) = IsCodeOf abend_record.cause code
Explains (Some abend_record) _ = ⊥

abbrev pub AbendRecordsExplain : Type 0
AbendRecordsExplain = (before after : TaskContext) (reply : TurnReply) (abend_record : Option AbendRecord)
    → HalfTurn before reply after → HasAbendRecord before abend_record → Explains abend_record reply
