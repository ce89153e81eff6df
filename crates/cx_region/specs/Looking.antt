-- What can be seen of a region (this product's own).
use Rattle.std.specs.Prelude.{◌≡◌, ℕ, ◌==◌, suc, Option, List, length}
use Rattle.std.specs.List.{find}
use Rattle.cx_region_state.specs.State.{TaskState}
use Rattle.cx_region.specs.State.{TerminalState}
use Rattle.cx_region.specs.declared.replies.TaskInfo.{TaskInfo}

-- what is shown of a task is what it is
pub record Shows (task : TaskState) (info : TaskInfo) : Type 0 where
  pub tran : info.tran ≡ task.tran
  pub program : info.program ≡ task.levels.current.program
  pub number : info.number ≡ task.number
  pub levels : info.levels ≡ suc (length task.levels.callers)
  pub eib : info.eib ≡ task.eib
  pub stg : info.stg ≡ task.levels.current.stg
  pub stg_len : info.stg_len ≡ task.levels.current.stg_len
  pub regs : info.cpu.regs ≡ task.regs
  pub cc : info.cpu.cc ≡ task.cc
  pub next : info.cpu.next ≡ task.next
  pub due : info.due ≡ task.due

-- the terminal at a position, with its name: that of a task's areas and resources
abbrev pub terminal_at : List (List ℕ × TerminalState) → ℕ → Option (List ℕ × TerminalState)
terminal_at terminals slot = find (λ terminal. terminal.1.entry.slot == slot) terminals
