-- A change is written where there is one, with the instruction that made it.
use Rattle.std.specs.Prelude.{◌≡◌, ◌↔◌, ℕ, Option, Some, None, MatchOption, List, [], slice_index}
use Rattle.cx_storage.specs.Address.{address_in}
use Rattle.cx_storage.specs.Storage.{Storage, IsSoundStorage}
use Rattle.cx_exec.specs.Advance.{Advances}
use Rattle.cx_exec.specs.Machine.{Machine}
use Rattle.cx_exec.specs.declared.machine.Halt.{Halt}
use Rattle.cx_region_state.specs.State.{TaskContext, TaskState}
use Rattle.cx_region_state.specs.declared.replies.TurnReply.{TurnReply}
use Rattle.cx_region_task.specs.declared.cause.AbendRecord.{AbendRecord}
use Rattle.cx_region_task.specs.Turn.{PerformsCommand, RunsOn, machine_of}
use Rattle.cx_region.specs.State.{RegionState, TerminalState}
use Rattle.cx_region.specs.Tables.{task_of, terminal_of}
use Rattle.cx_region.specs.Turn.{TakesTurn, context_of, put_back, task_after}
use Rattle.cx_look_lines.specs.Words.{Lines}
use Rattle.cx_look_ahead.specs.Watching.{AreChanges, AreOfRange, ActionEffect, work_of, kept_in}
use Rattle.cx_look_ahead.specs.Writers.{IsUnchanged, LastWriter}
use Rattle.cx_look_ahead.specs.declared.rows.Row.{Row}
use Rattle.cx_look_ahead.specs.declared.watching.Cause.TheVariants as cause
use Rattle.cx_look_ahead.specs.declared.writers.Work.{Work}
use Rattle.cx_look_ahead.specs.declared.writers.Work.TheVariants as work

-- a range has no line exactly where none of its bytes differs
abbrev pub ChangesAreWritten : Type 0
ChangesAreWritten = (effect : ActionEffect) (before : Storage) (range : Row) (lines : Lines) → IsSoundStorage before
    → IsSoundStorage effect.storage → AreOfRange effect (kept_in before range) lines
    → (lines ≡ []) ↔ IsUnchanged before effect.storage range

-- there is one last writer, and one text
abbrev pub WritersDecide : Type 0
WritersDecide = (limit : ℕ) (m : Machine) (range : Row) (one other : Option ℕ)
    → LastWriter limit m range one → LastWriter limit m range other → one ≡ other

abbrev pub ChangesDecide : Type 0
ChangesDecide = (effect : ActionEffect) (ranges : List Row) (before : Storage) (one other : Lines)
    → AreChanges ranges before effect one → AreChanges ranges before effect other → one ≡ other

-- a run none of whose instructions is a writer changes no byte of the range
abbrev pub WritersAreFound : Type 0
WritersAreFound = (limit : ℕ) (m after : Machine) (how : Halt) (range : Row)
    → Advances limit m how after → LastWriter limit m range None → IsUnchanged m.storage after.storage range

-- a half-turn performs the task's command, which leads back to the address in its register 14, or its run begins at the
-- machine
abbrev pub IsWorkDone : Work → TaskContext → TurnReply → Option AbendRecord → TaskContext → Type 0
IsWorkDone work.Nothing before reply abend_record after = ⊥
IsWorkDone (work.Command back) before reply abend_record after =
    PerformsCommand before reply abend_record after × (back ≡ address_in (slice_index before.task.regs 14))
IsWorkDone (work.Instructions m) before reply abend_record after =
    RunsOn before reply abend_record after × (m ≡ machine_of before)

-- the turn of a terminal with a task does it
pub record DoesIt (what : Work) (region : RegionState) (name : List ℕ) (reply : TurnReply) (new : RegionState)
    : Type 0 where
  pub terminal : TerminalState
  pub there : terminal_of region name ≡ Some terminal
  pub task : TaskState
  pub live : terminal.task ≡ Some task
  pub abend_record : Option AbendRecord
  pub reached : TaskContext
  pub done : IsWorkDone what (context_of region terminal task) reply abend_record reached
  pub is : new ≡ put_back region name reached (task_after reply reached.task)

-- what is taken for what a turn does, the turn does
abbrev pub WorkIsDone : Type 0
WorkIsDone = (region new : RegionState) (name : List ℕ) (reply : TurnReply) → TakesTurn region name reply new
    → MatchOption (task_of region name) (new ≡ region)
    (λ task. DoesIt (work_of region (cause.Turn name)) region name reply new)
