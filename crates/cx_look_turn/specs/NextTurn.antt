-- The next turn of a terminal: the machine that it runs on, and the instructions that it comes to (own).
use Rattle.std.specs.Prelude.{◌≡◌, ℕ, if◌then◌else◌, Option, Some, None, option_and_then, MatchOption, IsSomeAnd, List}
use Rattle.cx_storage.specs.Storage.{Storage}
use Rattle.cx_exec.specs.Advance.{Passes}
use Rattle.cx_exec.specs.Machine.{Machine}
use Rattle.cx_region_state.specs.State.{TaskState}
use Rattle.cx_region_task.specs.Turn.{most_steps}
use Rattle.cx_region.specs.State.{RegionState}
use Rattle.cx_region.specs.Tables.{task_of}
use Rattle.cx_look_turn.specs.Traces.{IsTrace, PassesFewer}
use Rattle.cx_look_turn.specs.declared.traces.Trace.{Trace}

-- a task's machine
abbrev pub task_machine : Storage → TaskState → Machine
task_machine storage task = record { regs = task.regs; cc = task.cc; next = task.next; storage = storage }

-- the machine that its turn runs on; None where a command is due
abbrev pub runs_on : Storage → TaskState → Option Machine
runs_on storage task = if task.due then None else Some (task_machine storage task)

-- and that of a terminal's next turn; None also where there is no task
abbrev pub machine_ahead : RegionState → List ℕ → Option Machine
machine_ahead region name = option_and_then (runs_on region.shared.storage) (task_of region name)

-- how many instructions it comes to, and the last n of them
unfoldable pub IsAhead : RegionState → List ℕ → ℕ → Option Trace → Type 0
IsAhead region name n trace =
    MatchOption (machine_ahead region name) (trace ≡ None)
    (λ m. IsSomeAnd trace (λ it. IsTrace most_steps m n it.count it.last.items))

-- the machine after so many instructions of a turn that runs on a machine; None where fewer are done
unfoldable pub IsMachineAfter : Option Machine → ℕ → Option Machine → Type 0
IsMachineAfter None n there = there ≡ None
IsMachineAfter (Some m) n None = PassesFewer n m
IsMachineAfter (Some m) n (Some there) = Passes n m there
