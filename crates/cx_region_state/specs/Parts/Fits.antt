-- What a verdict must have so that it can be carried out: places that are the least ones, services without a fault,
-- bytes that are in storage.
use Rattle.std.specs.Prelude.{◌≡◌, ◌≢◌, ℕ, ◌<◌, ◌≤◌, ◌^◌, List, length, Option, Some, None, ⊤, is_some, IsTrue}
use Rattle.cx_base.specs.declared.conditions.Condition.TheVariants.{Error}
use Rattle.cx_storage.specs.Storage.{Storage, area_at, area_from}
use Rattle.cx_service.specs.Queues.{item_len_of, rewrite_fault, write_fault}
use Rattle.cx_service.specs.Resources.{enq_fault}
use Rattle.cx_region_state.specs.declared.inputs.StorageSpan.{StorageSpan}
use Rattle.cx_region_state.specs.Inputs.{piece_bytes}
use Rattle.cx_region_state.specs.declared.verdict.TaskChange.{TaskChange}
use Rattle.cx_region_state.specs.declared.verdict.TaskChange.TheVariants.{Before, After, Gets, Enters, Replaces, TaskEnds}
use Rattle.cx_region_state.specs.declared.verdict.Copying.{Copying}
use Rattle.cx_region_state.specs.declared.verdict.AfterOutputs.{AfterOutputs}
use Rattle.cx_region_state.specs.declared.verdict.AfterOutputs.TheVariants.{MarksRead, Frees}
use Rattle.cx_region_state.specs.declared.verdict.Fill.{Fill}
use Rattle.cx_region_state.specs.declared.verdict.Fill.TheVariants.{Byte, Item}
use Rattle.cx_region_state.specs.declared.verdict.Got.{Got}
use Rattle.cx_region_state.specs.declared.verdict.BeforeOutputs.{BeforeOutputs}
use Rattle.cx_region_state.specs.declared.verdict.BeforeOutputs.TheVariants.{ItemLast, ItemAt, Enqueues, Shows, Handles}
use Rattle.cx_region_state.specs.declared.verdict.NewLevel.{NewLevel}
use Rattle.cx_region_state.specs.declared.verdict.RequestedTransaction.{RequestedTransaction}
use Rattle.cx_region_state.specs.declared.verdict.Request.{Request}
use Rattle.cx_region_state.specs.declared.verdict.Request.TheVariants.{Push}
use Rattle.cx_region_state.specs.declared.verdict.Verdict.{Verdict}
use Rattle.cx_region_state.specs.declared.verdict.Verdict.TheVariants.{Meets}
use Rattle.cx_region_state.specs.State.{TaskContext}
use Rattle.cx_region_state.specs.Areas.{IsTaskPlace, IsSoundProgram, got_owner, with_copy_area}

-- all bytes of the piece are in storage, and there are no more than a halfword can measure
pub record IsThere (storage : Storage) (piece : StorageSpan) : Type 0 where
  pub below : piece.place < 2 ^ 24
  pub few : piece.len ≤ 32767
  pub bytes : IsTrue (is_some (piece_bytes storage piece))

-- ---- what each change needs
abbrev pub FitsRequest : Request → TaskContext → Type 0
FitsRequest Push r = length r.task.levels.current.handles.kept < 16
FitsRequest _ r = ⊤

pub record FitsItemLast (name : List ℕ) (piece : StorageSpan) (r : TaskContext) : Type 0 where
  pub writes : write_fault r.shared.queues name piece.len ≡ None
  pub there : IsThere r.shared.storage piece

pub record FitsItemAt (name : List ℕ) (n : ℕ) (piece : StorageSpan) (r : TaskContext) : Type 0 where
  pub rewrites : rewrite_fault r.shared.queues name n piece.len ≡ None
  pub there : IsThere r.shared.storage piece

abbrev pub FitsMade : BeforeOutputs → TaskContext → Type 0
FitsMade (ItemLast name piece) r = FitsItemLast name piece r
FitsMade (ItemAt name n piece) r = FitsItemAt name n piece r
FitsMade (Enqueues resource) r = enq_fault r.shared.resources r.terminal_entry.slot resource ≡ None
FitsMade (Shows piece erase) r = IsThere r.shared.storage piece
FitsMade (Handles request) r = FitsRequest request r

-- an area that the task got by its own request starts there
pub record IsGot (r : TaskContext) (place : ℕ) : Type 0 where
  pub below : place < 2 ^ 24
  pub len : ℕ
  pub area : area_at r.shared.storage place ≡ Some (area_from place len (got_owner r.terminal_entry.slot))

abbrev pub FitsEnded : AfterOutputs → TaskContext → Type 0
FitsEnded (MarksRead name reading) r = item_len_of r.shared.queues name reading.number ≡ Some reading.len
FitsEnded (Frees place) r = IsGot r place
FitsEnded _ r = ⊤

abbrev pub FitsFill : Fill → ℕ → TaskContext → Type 0
FitsFill (Byte b) len r = ⊤
FitsFill (Item name n) len r = item_len_of r.shared.queues name n ≡ Some len

pub record FitsGot (got : Got) (r : TaskContext) : Type 0 where
  pub some : 0 < got.len
  pub few : got.len ≤ 65520
  pub place : IsTaskPlace r.shared.storage got.len (Some got.place)
  pub fill : FitsFill got.fill got.len r

-- the level's DFHEISTG has the least place in this storage
pub record FitsLevel (storage : Storage) (level : NewLevel) : Type 0 where
  pub program : IsSoundProgram level.loaded
  pub place : IsTaskPlace storage level.loaded.stg_len (Some level.stg)

pub record FitsEnters (level : NewLevel) (r : TaskContext) : Type 0 where
  pub few : length r.task.levels.callers < 15
  pub begins : FitsLevel r.shared.storage level

pub record IsPlacedCopy (copying : Copying) (storage : Storage) : Type 0 where
  pub some : 0 < copying.from.len
  pub there : IsThere storage copying.from
  pub place : IsTaskPlace storage copying.from.len (Some copying.to)

abbrev pub FitsCopy : Option Copying → Storage → Type 0
FitsCopy None storage = ⊤
FitsCopy (Some copying) storage = IsPlacedCopy copying storage

pub record FitsReplaces (copying : Option Copying) (level : NewLevel) (r : TaskContext) : Type 0 where
  pub copy : FitsCopy copying r.shared.storage
  pub begins : FitsLevel (with_copy_area r.shared.storage r.terminal_entry.slot copying) level

abbrev pub FitsPiece : Option StorageSpan → Storage → Type 0
FitsPiece None storage = ⊤
FitsPiece (Some piece) storage = IsThere storage piece

abbrev pub FitsTransaction : Option RequestedTransaction → TaskContext → Type 0
FitsTransaction None r = ⊤
FitsTransaction (Some next) r = FitsPiece next.commarea r.shared.storage

abbrev pub FitsChange : TaskChange → TaskContext → Type 0
FitsChange (Before made) r = FitsMade made r
FitsChange (After ended) r = FitsEnded ended r
FitsChange (Gets got) r = FitsGot got r
FitsChange (Enters level) r = FitsEnters level r
FitsChange (Replaces copying level) r = FitsReplaces copying level r
FitsChange (TaskEnds next) r = FitsTransaction next r
FitsChange _ r = ⊤

-- a condition is met that isn't ERROR, and its change can be made
abbrev pub Fits : Verdict → TaskContext → Type 0
Fits (Meets condition outputs change) r = (condition ≢ Error) × FitsChange change r
Fits _ r = ⊤
