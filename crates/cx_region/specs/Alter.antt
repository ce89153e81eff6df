-- What an operator alters of a terminal's task (Application Programmer's Reference Manual, SC33-0077, "Execution
-- (Command-Level) Diagnostic Facility"; what each change does, and the order of refusals, are this product's own).
use Rattle.std.specs.Prelude.{◌≡◌, ℕ, ◌≤◌, Bool, true, false, List, slice_set, Option, Some, None, is_some, if◌then◌else◌, MatchOption}
use Rattle.std.specs.Option.{option_map_or}
use Rattle.cx_storage.specs.Storage.{byte_at, with_byte}
use Rattle.cx_program.specs.Levels.{Levels, with_current}
use Rattle.cx_region_state.specs.State.{TaskContext, TaskState, with_storage}
use Rattle.cx_region_task.specs.Abends.{end_without_next}
use Rattle.cx_region_task.specs.Continuations.{on_its_way}
use Rattle.cx_region.specs.declared.changes.Change.{Change}
use Rattle.cx_region.specs.declared.changes.Change.TheVariants.{Register, Byte, Nop, Abend}
use Rattle.cx_region.specs.declared.changes.AlterReply.{AlterReply}
use Rattle.cx_region.specs.declared.changes.AlterReply.TheVariants as alter
use Rattle.cx_region.specs.State.{RegionState, TerminalState}
use Rattle.cx_region.specs.Tables.{terminal_of}
use Rattle.cx_region.specs.Turn.{put_back, context_of}

-- ---- refusals: the first that applies
-- of a task: no command is due that could be dropped, or no area has the byte
abbrev pub change_refusal : Change → TaskContext → Option AlterReply
change_refusal (Byte place value) before =
    if is_some (byte_at before.shared.storage place) then None else Some alter.NoByte
change_refusal Nop before = if before.task.due then None else Some alter.NotDue
change_refusal _ before = None

unfoldable pub alter_refusal : RegionState → List ℕ → Change → Option AlterReply
alter_refusal region name change =
    option_map_or
    (λ terminal. option_map_or (λ task. change_refusal change (context_of region terminal task)) terminal.task
    (Some alter.NoTask))
    (terminal_of region name)
    (Some alter.NoSuchTerminal)

-- ---- changes
-- the levels, of which the current one keeps the value in the register too, where a command is due
abbrev pub levels_with : TaskState → ℕ → ℕ → Levels
levels_with task r value =
    if task.due
    then with_current task.levels (record task.levels.current { regs = slice_set task.levels.current.regs r value })
    else task.levels

-- the task with the value in the register
abbrev pub with_register : TaskState → ℕ → ℕ → TaskState
with_register task r value = record task { regs = slice_set task.regs r value; levels = levels_with task r value }

-- What is reached after a change. Nop goes on as after a command that is done, and Abend is the end by an abend at
-- which no exit is looked at.
unfoldable pub after_change : Change → TaskContext → TaskContext
after_change (Register r value) before = record before { task = with_register before.task r value }
after_change (Byte place value) before = with_storage before (with_byte before.shared.storage place value)
after_change Nop before = on_its_way before
after_change Abend before = end_without_next before

-- the task that is left: none where the change ends it
abbrev pub ends_task : Change → Bool
ends_task Abend = true
ends_task _ = false

abbrev pub task_left : Change → TaskState → Option TaskState
task_left change task = if ends_task change then None else Some task

-- the region with what is reached after a change of the terminal's task
abbrev pub altered_at : RegionState → List ℕ → Change → TerminalState → TaskState → RegionState
altered_at old name change terminal task =
    let after = after_change change (context_of old terminal task) in
    put_back old name after (task_left change after.task)

-- the region after a change that isn't refused
unfoldable pub altered_region : RegionState → List ℕ → Change → RegionState
altered_region old name change =
    option_map_or (λ terminal. option_map_or (altered_at old name change terminal) terminal.task old)
    (terminal_of old name) old

-- ---- the alteration
-- it is refused, and all is as before; or it is done
unfoldable pub Alters : RegionState → List ℕ → Change → AlterReply → RegionState → Type 0
Alters old name change reply new =
    MatchOption (alter_refusal old name change)
    ((reply ≡ alter.Altered) × (new ≡ altered_region old name change))
    (λ refusal. (reply ≡ refusal) × (new ≡ old))

-- the register is one of the sixteen
abbrev pub IsAllowedChange : Change → Type 0
IsAllowedChange (Register r value) = r ≤ 15
IsAllowedChange _ = Unit {0}
