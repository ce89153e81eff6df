-- TASK: what is kept of a task (own).
use Rattle.std.specs.Prelude.{ℕ, List, [], ◌∷◌, ◌++◌, codes, Result, Ok, Err, if◌then◌else◌}
use Rattle.std.specs.Option.{option_map_or}
use Rattle.cx_base.specs.Commands.{row_of}
use Rattle.cx_storage.specs.Storage.{Storage}
use Rattle.cx_program.specs.Levels.{all_levels}
use Rattle.cx_region_state.specs.Call.{Call, call_of}
use Rattle.cx_region_state.specs.declared.call.CallFault.{CallFault}
use Rattle.cx_region_state.specs.State.{SharedState, TaskState}
use Rattle.cx_region_task.specs.Performing.{argument_list}
use Rattle.cx_region.specs.State.{RegionState}
use Rattle.cx_region.specs.Tables.{task_of}
use Rattle.cx_base.specs.Digits.{digits}
use Rattle.cx_base.specs.Texts.{shown_name}
use Rattle.cx_look_lines.specs.Registers.{register_lines}
use Rattle.cx_look_lines.specs.Words.{look_line, Lines}
use Rattle.cx_look_symbols.specs.Places.{place_at_address, place_word}
use Rattle.cx_look_symbols.specs.Sources.{Sources}
use Rattle.cx_look_fields.specs.Levels.{levels_text}

-- ---- the task: its transaction, its number, what it is doing
-- the command that is due, by its name
abbrev pub called_name : Result Call CallFault → List ℕ
called_name (Ok call) = (row_of call.command).name
called_name (Err fault) = codes "?"

unfoldable pub due_word : Storage → TaskState → List ℕ
due_word s task = if task.due then codes "DUE " ++ called_name (call_of s (argument_list task)) else codes "RUNNING"

abbrev pub task_line : SharedState → List ℕ → TaskState → Lines
task_line shared name task =
    look_line
    (codes "TASK" ∷ shown_name name ∷ codes "TRAN" ∷ shown_name task.tran ∷ codes "NUMBER" ∷ digits 10 7 task.number
    ∷ due_word shared.storage task ∷ [])

-- ---- all, with its registers, its condition code and where it goes on, and its levels from the highest, which is
-- number 1
abbrev pub task_lines_of : Sources → SharedState → List ℕ → TaskState → Lines
task_lines_of sources shared name task =
    let next = place_word sources.places (place_at_address shared.programs task.next) in
    task_line shared name task ++ register_lines task.regs
    ++ look_line (codes "CC" ∷ digits 10 1 task.cc ∷ codes "NEXT" ∷ next ∷ [])
    ++ levels_text sources shared 1 (all_levels task.levels)

unfoldable pub task_text : Sources → RegionState → List ℕ → Lines
task_text sources region name =
    option_map_or (task_lines_of sources region.shared name) (task_of region name)
    (look_line (codes "TASK" ∷ shown_name name ∷ codes "NONE" ∷ []))
