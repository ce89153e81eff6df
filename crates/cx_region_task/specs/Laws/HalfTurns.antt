-- What a half-turn of a task decides, leaves and keeps.
use Rattle.std.specs.Prelude.{◌≡◌, ℕ, Bool, true, false, List}
use Rattle.cx_storage.specs.declared.areas.Area.{Area}
use Rattle.cx_storage.specs.Storage.{Storage, areas_of, is_of_other_slot, with_areas_kept, IsSoundStorage}
use Rattle.cx_service.specs.Queues.{AreSoundQueues}
use Rattle.cx_service.specs.Resources.{without_owner}
use Rattle.cx_region_commands.specs.Common.{AreSoundPrograms}
use Rattle.cx_region_state.specs.declared.replies.TurnReply.{TurnReply}
use Rattle.cx_region_state.specs.declared.replies.TurnReply.TheVariants as turn
use Rattle.cx_region_state.specs.Replies.{is_over}
use Rattle.cx_region_state.specs.State.{TaskContext}
use Rattle.cx_region_task.specs.Sound.{IsSoundTask}
use Rattle.cx_region_task.specs.Turn.{HalfTurn}

-- the areas that other slots, and the region itself, own
abbrev pub others_areas : ℕ → Storage → List Area
others_areas slot storage = areas_of (with_areas_kept (is_of_other_slot slot) storage)

-- What a half-turn keeps: its slot and the programs; the areas and the resources of all others; the task sound, while
-- it goes on. Where it is over, the slot has no area and no resource left.
pub record HalfTurnKeeps (before : TaskContext) (reply : TurnReply) (after : TaskContext) : Type 0 where
  pub slot : after.terminal_entry.slot ≡ before.terminal_entry.slot
  pub programs : after.shared.programs ≡ before.shared.programs
  pub areas : others_areas before.terminal_entry.slot after.shared.storage
      ≡ others_areas before.terminal_entry.slot before.shared.storage
  pub resources : without_owner after.shared.resources before.terminal_entry.slot
      ≡ without_owner before.shared.resources before.terminal_entry.slot
  pub task : is_over reply ≡ false → IsSoundTask after.shared.storage before.terminal_entry.slot after.task
  pub nothing_left : is_over reply ≡ true
      → with_areas_kept (is_of_other_slot before.terminal_entry.slot) after.shared.storage ≡ after.shared.storage
  pub released : is_over reply ≡ true
      → without_owner after.shared.resources before.terminal_entry.slot ≡ after.shared.resources

abbrev pub HalfTurnsKeep : Type 0
HalfTurnsKeep =
    (before after : TaskContext) (reply : TurnReply) → IsSoundStorage before.shared.storage
    → AreSoundPrograms before.shared.programs → AreSoundQueues before.shared.queues
    → IsSoundTask before.shared.storage before.terminal_entry.slot before.task → HalfTurn before reply after
    → HalfTurnKeeps before reply after

-- the replies of a task's half-turn: those of a terminal without a task aren't among them
abbrev pub is_of_task : TurnReply → Bool
is_of_task turn.Idle = false
is_of_task turn.NoSuchTerminal = false
is_of_task _ = true

-- Whatever is reached before it, a half-turn leaves its slot and the programs, and is answered as a task's.
pub record HalfTurnStays (before : TaskContext) (reply : TurnReply) (after : TaskContext) : Type 0 where
  pub slot : after.terminal_entry.slot ≡ before.terminal_entry.slot
  pub programs : after.shared.programs ≡ before.shared.programs
  pub answers : is_of_task reply ≡ true

abbrev pub HalfTurnsStay : Type 0
HalfTurnsStay =
    (before after : TaskContext) (reply : TurnReply) → HalfTurn before reply after → HalfTurnStays before reply after

-- a half-turn that is answered Waiting leaves all as it is
abbrev pub WaitsLeave : Type 0
WaitsLeave = (before after : TaskContext) → HalfTurn before turn.Waiting after → after ≡ before

-- the reply and all that is reached are determined by what was reached before
abbrev pub HalfTurnsDecide : Type 0
HalfTurnsDecide =
    (before after later : TaskContext) (reply other : TurnReply) → HalfTurn before reply after
    → HalfTurn before other later → (reply ≡ other) × (after ≡ later)
