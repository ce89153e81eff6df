-- What follows from the definition of alterations.
use Rattle.std.specs.Prelude.{◌≡◌, ◌≢◌, ℕ, Bool, true, false, ◌==◌, List, is_some, MatchOption}
use Rattle.std.specs.Map.{keys_of}
use Rattle.cx_base.specs.declared.abends.Abend.TheVariants.{Xedf}
use Rattle.cx_base.specs.Abends.{abend_code}
use Rattle.cx_storage.specs.Storage.{areas_of, byte_at, is_of_other_slot, with_areas_kept}
use Rattle.cx_service.specs.Resources.{without_owner}
use Rattle.cx_region_state.specs.declared.replies.TurnReply.TheVariants as turn
use Rattle.cx_region_state.specs.State.{TaskContext, TaskState}
use Rattle.cx_region_task.specs.Abends.{Abends}
use Rattle.cx_region.specs.declared.changes.Change.{Change}
use Rattle.cx_region.specs.declared.changes.Change.TheVariants.{Byte, Abend}
use Rattle.cx_region.specs.declared.changes.AlterReply.{AlterReply}
use Rattle.cx_region.specs.declared.changes.AlterReply.TheVariants as alter
use Rattle.cx_region.specs.State.{RegionState}
use Rattle.cx_region.specs.Tables.{task_of, terminal_of}
use Rattle.cx_region.specs.Alter.{Alters, after_change, ends_task}
use Rattle.cx_region_laws.specs.Laws.Regions.{OthersAsBefore}

-- ---- one outcome
-- two outcomes of one alteration are equal
abbrev pub AlterationsDecide : Type 0
AlterationsDecide =
    (old : RegionState) (name : List ℕ) (change : Change) (reply other : AlterReply) (new later : RegionState)
    → Alters old name change reply new → Alters old name change other later → (reply ≡ other) × (new ≡ later)

-- ---- what stays
-- every answer but Altered leaves the region
abbrev pub RefusedAlterationsLeaveTheRegion : Type 0
RefusedAlterationsLeaveTheRegion =
    (old : RegionState) (name : List ℕ) (change : Change) (reply : AlterReply) (new : RegionState)
    → Alters old name change reply new → reply ≢ alter.Altered → new ≡ old

-- the byte that a change sets
abbrev pub sets_byte : Change → ℕ → Bool
sets_byte (Byte place value) x = x == place
sets_byte _ x = false

-- what an alteration leaves, whatever is changed
pub record AlterKeeps (old : RegionState) (name : List ℕ) (new : RegionState) : Type 0 where
  pub others : OthersAsBefore old name new
  pub names : keys_of new.terminals ≡ keys_of old.terminals
  pub programs : new.shared.programs ≡ old.shared.programs
  pub transactions : new.transactions ≡ old.transactions
  pub time : new.time ≡ old.time
  pub date : new.date ≡ old.date
  pub counter : new.counter ≡ old.counter
  pub queues : new.shared.queues ≡ old.shared.queues

-- what else it leaves, where the task goes on: areas and resources, and all bytes except at most one
pub record AlterKeepsStorage (old : RegionState) (change : Change) (new : RegionState) : Type 0 where
  pub areas : areas_of new.shared.storage ≡ areas_of old.shared.storage
  pub bytes : (x : ℕ) → sets_byte change x ≡ false → byte_at new.shared.storage x ≡ byte_at old.shared.storage x
  pub resources : new.shared.resources ≡ old.shared.resources

-- and what it leaves where it ends the task: the areas, with their bytes, and the resources of all others
pub record AlterKeepsOthers (old : RegionState) (name : List ℕ) (new : RegionState) : Type 0 where
  pub areas : MatchOption (terminal_of old name) (new.shared.storage ≡ old.shared.storage) (λ terminal.
      with_areas_kept (is_of_other_slot terminal.entry.slot) new.shared.storage
      ≡ with_areas_kept (is_of_other_slot terminal.entry.slot) old.shared.storage)
  pub resources : MatchOption (terminal_of old name) (new.shared.resources ≡ old.shared.resources) (λ terminal.
      without_owner new.shared.resources terminal.entry.slot ≡ without_owner old.shared.resources terminal.entry.slot)

-- where a command is due, the current level keeps the registers and the code that its program has
abbrev pub KeepsWhereDue : TaskState → Type 0
KeepsWhereDue task = task.due ≡ true → (task.levels.current.regs ≡ task.regs) × (task.levels.current.cc ≡ task.cc)

-- what it leaves of the task: the levels above the current one, and that
pub record AlterKeepsLevels (before after : TaskState) : Type 0 where
  pub callers : after.levels.callers ≡ before.levels.callers
  pub kept : KeepsWhereDue before → KeepsWhereDue after

-- an alteration leaves the levels above the current one, and what that keeps at a command is still its program's
abbrev pub AlterationsKeepLevels : Type 0
AlterationsKeepLevels =
    (change : Change) (before : TaskContext) → AlterKeepsLevels before.task (after_change change before).task

-- an alteration changes no terminal but its own, no definition or queue, nor the clock or the counter
abbrev pub AlterationsKeepToTheirTask : Type 0
AlterationsKeepToTheirTask =
    (old : RegionState) (name : List ℕ) (change : Change) (reply : AlterReply) (new : RegionState)
    → Alters old name change reply new → AlterKeeps old name new

-- where the task goes on, an alteration changes no area and no resource, and one byte at most
abbrev pub AlterationsKeepStorage : Type 0
AlterationsKeepStorage = (old : RegionState) (name : List ℕ) (change : Change) (reply : AlterReply) (new : RegionState)
    → Alters old name change reply new → ends_task change ≡ false → AlterKeepsStorage old change new

-- an alteration that ends the task leaves the areas of all others with their bytes, and their resources
abbrev pub AbendsKeepOthers : Type 0
AbendsKeepOthers = (old : RegionState) (name : List ℕ) (reply : AlterReply) (new : RegionState)
    → Alters old name Abend reply new → AlterKeepsOthers old name new

-- ---- the abend
-- an operator's abend of a live task isn't refused
abbrev pub AbendsOfTasksAreDone : Type 0
AbendsOfTasksAreDone = (old : RegionState) (name : List ℕ) (reply : AlterReply) (new : RegionState)
    → Alters old name Abend reply new → is_some (task_of old name) ≡ true → reply ≡ alter.Altered

-- an operator's abend is one with the code XEDF at which no exit is looked at
abbrev pub AbendsLookAtNoExit : Type 0
AbendsLookAtNoExit =
    (before : TaskContext)
    → Abends (abend_code Xedf) true before (turn.Abended (abend_code Xedf)) (after_change Abend before)
