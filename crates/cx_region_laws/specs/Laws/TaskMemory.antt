-- Which half-turns may take memory (Application Programmer's Reference Manual, SC33-0077, the section of each command).
use Rattle.std.specs.Prelude.{◌≡◌, Bool, true, false, is_some}
use Rattle.cx_base.specs.declared.commands.Command.{Command}
use Rattle.cx_base.specs.declared.commands.Command.TheVariants as command
use Rattle.cx_base.specs.declared.options.OptionName.TheVariants.{Set}
use Rattle.cx_storage.specs.Storage.{Storage}
use Rattle.cx_region_state.specs.Call.{Call}
use Rattle.cx_region_state.specs.State.{TaskContext}
use Rattle.cx_region_commands.specs.Common.{commarea_of, has}
use Rattle.cx_region_task.specs.Turn.{TakesMemory}

-- the commands that may take memory: those that get an area, keep data or begin a level
abbrev pub takes_memory : Command → Call → Storage → Bool
takes_memory command.Getmain call storage = true
takes_memory command.ReadqTs call storage = has call Set
takes_memory command.WriteqTs call storage = true
takes_memory command.Enq call storage = true
takes_memory command.Link call storage = true
takes_memory command.Xctl call storage = true
takes_memory command.Return call storage = is_some (commarea_of storage call)
takes_memory _ call storage = false

-- where a half-turn may take memory, such a command is due
abbrev pub OnlyTheseTakeMemory : Type 0
OnlyTheseTakeMemory =
    (before : TaskContext) (taken : TakesMemory before)
    → takes_memory taken.act.call.command taken.act.call before.shared.storage ≡ true
