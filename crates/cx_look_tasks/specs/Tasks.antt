-- TASKS and RESOURCES (own).
use Rattle.std.specs.Prelude.{◌≡◌, ℕ, Bool, false, ◌+◌, List, [], ◌∷◌, ◌++◌, length, codes, Option, Some, None, if◌then◌else◌}
use Rattle.std.specs.List.{flat_map}
use Rattle.std.specs.Option.{option_and_then, option_map_or}
use Rattle.cx_base.specs.Commands.{row_of}
use Rattle.cx_service.specs.Resources.{hold_of, is_resource}
use Rattle.cx_service.specs.declared.resources.Hold.{Hold}
use Rattle.cx_service.specs.declared.resources.ResourceName.{ResourceName}
use Rattle.cx_service.specs.declared.resources.ResourceName.TheVariants as resource
use Rattle.cx_region_state.specs.State.{TaskState}
use Rattle.cx_region.specs.State.{RegionState, TerminalState}
use Rattle.cx_base.specs.Digits.{digits}
use Rattle.cx_base.specs.Texts.{shown_name}
use Rattle.cx_region.specs.Looking.{terminal_at}
use Rattle.cx_look_lines.specs.Words.{look_line, or_none, written_bytes, written_name, Lines}
use Rattle.cx_look_tasks.specs.Activities.{AreActivities, is_waiting}
use Rattle.cx_look_tasks.specs.declared.activities.Activity.{Activity}
use Rattle.cx_look_tasks.specs.declared.activities.Activity.TheVariants.{Due, NoTask, Running, Waiting}
use Rattle.cx_region_task.specs.declared.decision.Wait.{Wait}
use Rattle.cx_region_task.specs.declared.decision.Wait.TheVariants as wait

-- ---- names; hyphens where there is none
-- the terminal whose task is an owner
abbrev pub owner_name : RegionState → ℕ → List ℕ
owner_name region slot =
    option_map_or (λ terminal. shown_name terminal.0) (terminal_at region.terminals slot) (codes "--")

-- a resource: by its bytes, or by its address
abbrev pub resource_value : ResourceName → List ℕ
resource_value (resource.Bytes bytes) = written_bytes bytes
resource_value (resource.Address place) = digits 16 6 place

-- ---- TASKS
abbrev pub wait_words : RegionState → Wait → List (List ℕ)
wait_words region wait.Input = codes "INPUT" ∷ []
wait_words region (wait.Resource name) =
    let hold = option_and_then (hold_of region.shared.resources) name in
    codes "RESOURCE" ∷ option_map_or resource_value name (codes "--") ∷ codes "OWNER"
    ∷ option_map_or (λ it. owner_name region it.owner) hold (codes "--") ∷ []
wait_words region (wait.Room name) = codes "ROOM IN QUEUE" ∷ option_map_or written_name name (codes "--") ∷ []
wait_words region wait.Storage = codes "STORAGE" ∷ []

abbrev pub activity_words : RegionState → Activity → List (List ℕ)
activity_words region NoTask = codes "NO TASK" ∷ []
activity_words region Running = codes "RUNNING" ∷ []
activity_words region (Due command) = codes "DUE" ∷ option_map_or (λ it. (row_of it).name) command (codes "?") ∷ []
activity_words region (Waiting wait) = codes "WAITING FOR" ∷ wait_words region wait

-- the transaction, the task's number, and the number of its levels
abbrev pub task_words : Option TaskState → List (List ℕ)
task_words None = []
task_words (Some task) =
    shown_name task.tran ∷ codes "TASK" ∷ digits 10 7 task.number ∷ codes "LEVEL"
    ∷ digits 10 2 (length task.levels.callers + 1) ∷ []

unfoldable pub task_line : RegionState → List ℕ × TerminalState → Activity → Lines
task_line region entry activity =
    look_line (shown_name entry.0 ∷ task_words entry.1.task ++ activity_words region activity)

-- what is written of each terminal and of what its task is doing, in the order of their definition
unfoldable pub of_each : (List ℕ × TerminalState → Activity → Lines) → List (List ℕ × TerminalState) → List Activity
    → Lines
of_each lines (entry ∷ entries) (activity ∷ activities) = lines entry activity ++ of_each lines entries activities
of_each lines _ _ = []

pub record TasksText (region : RegionState) (lines : Lines) : Type 0 where
  pub activities : List Activity
  pub are : AreActivities region region.terminals activities
  pub is : lines ≡ or_none (codes "TASKS") (of_each (task_line region) region.terminals activities)

-- ---- the tasks that wait
-- the transaction, and the number of its levels
abbrev pub waiting_words : Option TaskState → List (List ℕ)
waiting_words None = []
waiting_words (Some task) = shown_name task.tran ∷ codes "LEVEL" ∷ digits 10 2 (length task.levels.callers + 1) ∷ []

-- as TASKS says, without the task's number
unfoldable pub waiting_line : RegionState → List ℕ × TerminalState → Activity → Lines
waiting_line region entry activity =
    if is_waiting activity
    then look_line (shown_name entry.0 ∷ waiting_words entry.1.task ++ activity_words region activity) else []

pub record WaitsText (region : RegionState) (lines : Lines) : Type 0 where
  pub activities : List Activity
  pub are : AreActivities region region.terminals activities
  pub is : lines ≡ of_each (waiting_line region) region.terminals activities

-- ---- RESOURCES
-- the task waits for the resource
abbrev pub waits_for : ResourceName → Activity → Bool
waits_for name (Waiting (wait.Resource (Some waited))) = is_resource waited name
waits_for name _ = false

-- the line of a terminal whose task waits for the resource
unfoldable pub waiter_text : ResourceName → List ℕ × TerminalState → Activity → Lines
waiter_text name entry activity =
    if waits_for name activity
    then look_line (codes "RESOURCE" ∷ resource_value name ∷ codes "WAITER" ∷ shown_name entry.0 ∷ []) else []

-- a resource, and who waits for it
unfoldable pub resource_lines : RegionState → List Activity → ResourceName × Hold → Lines
resource_lines region activities entry =
    look_line
    (codes "RESOURCE" ∷ resource_value entry.0 ∷ codes "OWNER" ∷ owner_name region entry.1.owner ∷ codes "COUNT"
    ∷ digits 10 5 entry.1.count ∷ [])
    ++ of_each (waiter_text entry.0) region.terminals activities

pub record ResourcesText (region : RegionState) (lines : Lines) : Type 0 where
  pub activities : List Activity
  pub are : AreActivities region region.terminals activities
  pub is : lines ≡ or_none (codes "RESOURCES") (flat_map (resource_lines region activities) region.shared.resources)
