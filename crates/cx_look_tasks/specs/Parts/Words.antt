-- The pieces of what is written; what is written of an item.
use Rattle.std.specs.Prelude.{ℕ, None, Some, List, [], ◌∷◌, codes, Option, if◌then◌else◌}
use Rattle.std.specs.Option.{option_and_then, option_map_or}
use Rattle.cx_base.specs.Digits.{digits}
use Rattle.cx_base.specs.Texts.{shown_name}
use Rattle.cx_service.specs.Resources.{hold_of}
use Rattle.cx_service.specs.declared.resources.Hold.{Hold}
use Rattle.cx_service.specs.declared.resources.ResourceName.{ResourceName}
use Rattle.cx_region_state.specs.Call.{Call, has_nohandle, resp_place}
use Rattle.cx_region_state.specs.State.{TaskState}
use Rattle.cx_region.specs.State.{RegionState, TerminalState}
use Rattle.cx_region.specs.Tables.{task_of}
use Rattle.cx_look_lines.specs.Words.{look_line, Lines}
use Rattle.cx_look_tasks.specs.Commands.{with_value}
use Rattle.cx_look_tasks.specs.Tasks.{owner_name, resource_value, task_line, waiter_text, waiting_line}
use Rattle.cx_look_tasks.specs.declared.activities.Activity.{Activity}
use Rattle.cx_look_tasks.specs.declared.lines.TerminalLine.{TerminalLine}
use Rattle.cx_look_tasks.specs.declared.lines.TerminalLine.TheVariants as lines

-- what is written of an item, where there is one
abbrev pub of_one : {A : Type 0} → (A → Lines) → Option A → Lines
of_one lines item = option_map_or lines item []

-- what is written of a terminal, by what its task is doing
abbrev pub line_of : RegionState → TerminalLine → List ℕ × TerminalState → Activity → Lines
line_of region lines.Task = task_line region
line_of region lines.Waiting = waiting_line region
line_of region (lines.Waiter name) = waiter_text name

-- ---- a command
abbrev pub nohandle_words : Call → List (List ℕ)
nohandle_words call = if has_nohandle call.second then codes "NOHANDLE" ∷ [] else []

abbrev pub resp_words : Call → List (List ℕ)
resp_words call = option_map_or (λ place. with_value (codes "RESP") (digits 16 6 place) ∷ []) (resp_place call) []

-- the terminal's task, where a command of it is due
abbrev pub task_due : RegionState → List ℕ → Option TaskState
task_due region name = option_and_then (λ task. if task.due then Some task else None) (task_of region name)

-- ---- resources
abbrev pub owner_of : RegionState → Option ResourceName → Option Hold
owner_of region name = option_and_then (hold_of region.shared.resources) name

abbrev pub owner_word : RegionState → Option ResourceName → List ℕ
owner_word region name = option_map_or (λ it. owner_name region it.owner) (owner_of region name) (codes "--")

abbrev pub hold_line : RegionState → ResourceName → Hold → Lines
hold_line region name hold =
    look_line
    (codes "RESOURCE" ∷ resource_value name ∷ codes "OWNER" ∷ owner_name region hold.owner ∷ codes "COUNT"
    ∷ digits 10 5 hold.count ∷ [])

abbrev pub waiter_line : ResourceName → List ℕ → Lines
waiter_line name terminal =
    look_line (codes "RESOURCE" ∷ resource_value name ∷ codes "WAITER" ∷ shown_name terminal ∷ [])
