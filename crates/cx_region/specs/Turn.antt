-- A turn of a terminal: one half-turn of its task (this product's own).
use Rattle.std.specs.Prelude.{◌≡◌, ℕ, List, Option, Some, None, if◌then◌else◌, MatchOption}
use Rattle.cx_region_state.specs.declared.replies.TurnReply.{TurnReply}
use Rattle.cx_region_state.specs.declared.replies.TurnReply.TheVariants as turn
use Rattle.cx_region_state.specs.Replies.{is_over}
use Rattle.cx_region_state.specs.State.{TaskContext, TaskState, context}
use Rattle.cx_region_task.specs.declared.cause.AbendRecord.{AbendRecord}
use Rattle.cx_region_task.specs.Turn.{HalfTurn, HasAbendRecord}
use Rattle.cx_region.specs.State.{RegionState, TerminalState}
use Rattle.cx_region.specs.Tables.{terminal_of, with_terminal}

-- what a half-turn of a terminal's task reaches
abbrev pub context_of : RegionState → TerminalState → TaskState → TaskContext
context_of region terminal task = context region.shared terminal.entry task

-- the region with what was reached put back, and the task that is left
abbrev pub put_back : RegionState → List ℕ → TaskContext → Option TaskState → RegionState
put_back old name reached task =
    record (with_terminal old name (record { entry = reached.terminal_entry; task = task })) { shared = reached.shared }

-- the task that a terminal has after a half-turn: none where it is over
abbrev pub task_after : TurnReply → TaskState → Option TaskState
task_after reply task = if is_over reply then None else Some task

-- the turn of a terminal with a task
pub record TaskTakesTurn (old : RegionState) (name : List ℕ) (terminal : TerminalState) (task : TaskState)
    (reply : TurnReply) (new : RegionState) : Type 0 where
  pub reached : TaskContext
  pub half_turn : HalfTurn (context_of old terminal task) reply reached
  pub after : new ≡ put_back old name reached (task_after reply reached.task)

-- a turn of a terminal
unfoldable pub TakesTurn : RegionState → List ℕ → TurnReply → RegionState → Type 0
TakesTurn old name reply new =
    MatchOption (terminal_of old name) ((reply ≡ turn.NoSuchTerminal) × (new ≡ old)) (λ terminal.
    MatchOption terminal.task ((reply ≡ turn.Idle) × (new ≡ old))
    (λ task. TaskTakesTurn old name terminal task reply new))

-- the record of an abend to which it leads: that of its task's half-turn; without a task, or a terminal, there is none
unfoldable pub TurnHasAbendRecord : RegionState → List ℕ → Option AbendRecord → Type 0
TurnHasAbendRecord old name abend_record =
    MatchOption (terminal_of old name) (abend_record ≡ None)
    (λ terminal. MatchOption terminal.task (abend_record ≡ None)
    (λ task. HasAbendRecord (context_of old terminal task) abend_record))
