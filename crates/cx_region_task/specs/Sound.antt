-- What holds of a task in every state that half-turns reach (this product's own): its areas are there, each its own.
use Rattle.std.specs.Prelude.{ℕ, ◌≤◌, ◌∷◌, length, map, nat_eq}
use Rattle.std.specs.List.{AllByRecursion, IsDistinct}
use Rattle.cx_base.specs.Eib.{eib_len}
use Rattle.cx_storage.specs.Storage.{Storage}
use Rattle.cx_program.specs.declared.level.Level.{Level}
use Rattle.cx_region_state.specs.Areas.{IsAreaOf}
use Rattle.cx_region_state.specs.State.{TaskState}

-- a level's DFHEISTG is an area of its slot, and it keeps at most sixteen PUSH HANDLEs
pub record IsSoundLevel (storage : Storage) (slot : ℕ) (level : Level) : Type 0 where
  pub stg : IsAreaOf storage slot level.stg level.stg_len
  pub pushes : length level.handles.kept ≤ 16

-- a task's EIB is an area of its slot, and it has 1 to 16 levels, each sound; no two of these areas are the same
pub record IsSoundTask (storage : Storage) (slot : ℕ) (task : TaskState) : Type 0 where
  pub eib : IsAreaOf storage slot task.eib eib_len
  pub current : IsSoundLevel storage slot task.levels.current
  pub callers : AllByRecursion (IsSoundLevel storage slot) task.levels.callers
  pub few : length task.levels.callers ≤ 15
  pub apart : IsDistinct nat_eq (task.eib ∷ task.levels.current.stg ∷ map (λ level. level.stg) task.levels.callers)
