-- A turn, by the parts that change; no public contract cites it.
use Rattle.std.specs.Prelude.{◌≡◌, Option, None, IsSomeAnd, MatchOption}
use Rattle.cx_region_state.specs.declared.replies.TurnReply.{TurnReply}
use Rattle.cx_region_state.specs.declared.replies.TurnReply.TheVariants as turn
use Rattle.cx_region_state.specs.State.{TaskContext, SharedState, TaskState, context}
use Rattle.cx_region_task.specs.declared.cause.AbendRecord.{AbendRecord}
use Rattle.cx_region_task.specs.Turn.{TakesMemory, HalfTurn, HasAbendRecord}
use Rattle.cx_region.specs.State.{TerminalState}
use Rattle.cx_region.specs.Turn.{task_after}

-- a half-turn of a terminal's task
pub record PartTurned (shared : SharedState) (terminal : TerminalState) (task : TaskState) (reply : TurnReply)
    (after : SharedState) (left : TerminalState) : Type 0 where
  pub reached : TaskContext
  pub half_turn : HalfTurn (context shared terminal.entry task) reply reached
  pub shared_is : after ≡ reached.shared
  pub terminal_is : left ≡ record { entry = reached.terminal_entry; task = task_after reply reached.task }

-- of what tasks share and of one terminal; without a task there is no change
unfoldable pub TurnedAt : SharedState → TerminalState → TurnReply → SharedState → TerminalState → Type 0
TurnedAt shared terminal reply after left =
    MatchOption terminal.task ((reply ≡ turn.Idle) × (after ≡ shared) × (left ≡ terminal))
    (λ task. PartTurned shared terminal task reply after left)

unfoldable pub TakesMemoryAt : SharedState → TerminalState → Type 0
TakesMemoryAt shared terminal =
    IsSomeAnd terminal.task (λ task. TakesMemory (context shared terminal.entry task))

-- why it leads to an abend
unfoldable pub HasAbendRecordAt : SharedState → TerminalState → Option AbendRecord → Type 0
HasAbendRecordAt shared terminal abend_record =
    MatchOption terminal.task (abend_record ≡ None)
    (λ task. HasAbendRecord (context shared terminal.entry task) abend_record)
