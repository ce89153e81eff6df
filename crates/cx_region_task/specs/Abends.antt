-- An abend (Application Programmer's Reference Manual, SC33-0077, "HANDLE ABEND", "ABEND"): the nearest exit that is on
-- takes it, from the current level upward; without one the task ends.
use Rattle.std.specs.Prelude.{◌≡◌, ℕ, suc, ◌-◌, Bool, true, false, List, ◌∷◌, length, slice_set, Option, Some, None, unwrap_or}
use Rattle.cx_storage.specs.Address.{address_in}
use Rattle.cx_storage.specs.Storage.{Storage, is_of_other_slot, starts_elsewhere, with_areas_kept}
use Rattle.cx_program.specs.declared.level.Level.{Level}
use Rattle.cx_program.specs.Entries.{label_on, turned_off}
use Rattle.cx_program.specs.Handles.{put_exit}
use Rattle.cx_program.specs.Levels.{Levels, all_levels, with_current, IsNearestExit}
use Rattle.cx_service.specs.Resources.{without_owner}
use Rattle.cx_region_state.specs.Eib.{with_calen}
use Rattle.cx_region_state.specs.declared.replies.TurnReply.{TurnReply}
use Rattle.cx_region_state.specs.declared.replies.TurnReply.TheVariants as turn
use Rattle.cx_region_state.specs.State.{TaskContext, TaskState}

-- ---- the end of a task: its areas are freed, its resources released, its held input dropped
abbrev pub task_ended : TaskContext → TaskContext
task_ended r =
    record r {
      shared = record r.shared {
        storage = with_areas_kept (is_of_other_slot r.terminal_entry.slot) r.shared.storage;
        resources = without_owner r.shared.resources r.terminal_entry.slot;
      };
      terminal_entry = record r.terminal_entry { input = None };
    }

-- an abend's end, at which no exit is looked at, leaves no next transaction
abbrev pub end_without_next : TaskContext → TaskContext
end_without_next r =
    let over = task_ended r in record over { terminal_entry = record over.terminal_entry { following = None } }

-- ---- exits
-- the area of a level's DFHEISTG is freed
abbrev pub without_stg : Level → Storage → Storage
without_stg level storage = with_areas_kept (starts_elsewhere (address_in level.stg)) storage

-- levels, with storage
pub record Unwound : Type 0 where
  pub levels : Levels
  pub storage : Storage

-- as many levels end as the number says, the current one first; each one's DFHEISTG is freed, and its caller is the
-- current level then
unfoldable pub unwound : ℕ → List Level → Level → Storage → Unwound
unwound (suc n) (caller ∷ callers) current storage = unwound n callers caller (without_stg current storage)
unwound _ callers current storage =
    record { levels = record { callers = callers; current = current }; storage = storage }

-- the level with its exit turned off
abbrev pub with_exit_off : Level → Level
with_exit_off level = record level { handles = put_exit level.handles (turned_off level.handles.active.exit) }

-- what is left where the levels below the one at an index, counted from 0, the highest, have ended
abbrev pub left_at : ℕ → TaskState → Storage → Unwound
left_at index task storage =
    unwound (length task.levels.callers - index) task.levels.callers task.levels.current storage

-- The exit of the level at an index takes the abend: the levels below it end. EIBCALEN is the level's length; the task
-- has the registers and code that the level kept, R15 the label, and next the label; the exit is off, and no command is
-- due.
unfoldable pub exit_storage : ℕ → TaskState → Storage → Storage
exit_storage index task storage =
    let left = left_at index task storage in with_calen left.storage task.eib (Some left.levels.current.calen)

unfoldable pub exit_task : ℕ → TaskState → Storage → TaskState
exit_task index task storage =
    let levels = (left_at index task storage).levels in
    let label = unwrap_or (label_on levels.current.handles.active.exit) 0 in
    record task {
      levels = with_current levels (with_exit_off levels.current);
      regs = slice_set levels.current.regs 15 label;
      cc = levels.current.cc;
      next = address_in label;
      due = false;
    }

abbrev pub exit_taken : ℕ → TaskContext → TaskContext
exit_taken index r =
    record r {
      shared = record r.shared { storage = exit_storage index r.task r.shared.storage };
      task = exit_task index r.task r.shared.storage;
    }

-- ---- abends
-- the exit that takes an abend: none where it is asked for with CANCEL, else the nearest that is on
abbrev pub IsExit : Bool → Levels → Option ℕ → Type 0
IsExit true levels exit = exit ≡ None
IsExit false levels exit = IsNearestExit (all_levels levels) exit

-- an abend, by its exit
unfoldable pub AbendsAt : Option ℕ → List ℕ → TaskContext → TurnReply → TaskContext → Type 0
AbendsAt None code before reply after = (reply ≡ turn.Abended code) × (after ≡ end_without_next before)
AbendsAt (Some index) code before reply after = (reply ≡ turn.TookExit code) × (after ≡ exit_taken index before)

-- the task abends with this code; the flag says that no exit is looked at
pub record Abends (code : List ℕ) (cancel : Bool) (before : TaskContext) (reply : TurnReply) (after : TaskContext)
    : Type 0 where
  pub exit : Option ℕ
  pub takes : IsExit cancel before.task.levels exit
  pub ends : AbendsAt exit code before reply after
