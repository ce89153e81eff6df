-- COMMAND: the command that is due at a terminal (own).
use Rattle.std.specs.Prelude.{ℕ, List, [], ◌∷◌, codes, None, Some, if◌then◌else◌}
use Rattle.std.specs.Option.{option_and_then, option_map_or}
use Rattle.std.specs.Result.{result_ok}
use Rattle.cx_storage.specs.Storage.{Storage}
use Rattle.cx_region_state.specs.Call.{call_of}
use Rattle.cx_region_state.specs.State.{TaskState}
use Rattle.cx_region_task.specs.Performing.{argument_list}
use Rattle.cx_region.specs.State.{RegionState}
use Rattle.cx_region.specs.Tables.{task_of}
use Rattle.cx_base.specs.Texts.{shown_name}
use Rattle.cx_look_lines.specs.Words.{look_line, Lines}
use Rattle.cx_look_tasks.specs.Commands.{call_text}

-- a terminal, and one word of it
abbrev pub command_look_line : List ℕ → List ℕ → Lines
command_look_line name word = look_line (codes "COMMAND" ∷ shown_name name ∷ word ∷ [])

-- the command that the task's argument list gives, where it can be read
unfoldable pub due_text : Storage → List ℕ → TaskState → Lines
due_text s name task =
    option_map_or (call_text s) (result_ok (call_of s (argument_list task))) (command_look_line name (codes "?"))

-- that of the terminal's task, where a command of it is due
unfoldable pub command_text : RegionState → List ℕ → Lines
command_text region name =
    option_map_or (due_text region.shared.storage name)
    (option_and_then (λ task. if task.due then Some task else None) (task_of region name))
    (command_look_line name (codes "NONE"))
