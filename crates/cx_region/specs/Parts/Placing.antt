-- Words for the steps of placing a task's areas, which no public contract cites.
use Rattle.std.specs.Prelude.{◌≡◌, ℕ, ◌^◌, ◌<◌, true, IfSome}
use Rattle.std.specs.List.{AllByRecursion}
use Rattle.cx_storage.specs.Storage.{Storage, is_of_other_slot}
use Rattle.cx_region_state.specs.State.{Input, TaskState}
use Rattle.cx_region.specs.declared.asking.Start.{Start}
use Rattle.cx_region_state.specs.Areas.{system_owner}
use Rattle.cx_region_state.specs.declared.verdict.NewLevel.{NewLevel}
use Rattle.cx_region.specs.Attach.{ArePlaced, HasNoPlaces, with_task_areas}
use Rattle.cx_region.specs.declared.asking.Places.{Places}
use Rattle.cx_region.specs.Parts.Asking.{level_of, task_of_start}

-- no places for the areas of a task
abbrev pub HasNoPlacesFor : Storage → Start → Type 0
HasNoPlacesFor storage start = HasNoPlaces storage (system_owner start.slot) start.calen start.loaded.stg_len

-- the places of a task's areas, and storage with them
abbrev pub ArePlacesFor : Storage → Start → Places → Type 0
ArePlacesFor storage start places =
    ArePlaced storage (system_owner start.slot) start.calen start.loaded.stg_len places

abbrev pub with_areas_of : Storage → Start → Places → Storage
with_areas_of storage start places =
    with_task_areas storage (system_owner start.slot) start.calen start.loaded.stg_len places

-- addresses of 24 bits
pub record ArePlacesBelow (places : Places) : Type 0 where
  pub eib : places.eib < 2 ^ 24
  pub commarea : IfSome places.commarea (λ a. a < 2 ^ 24)
  pub stg : places.stg < 2 ^ 24

-- no area is the slot's
abbrev pub IsSlotFree : Storage → ℕ → Type 0
IsSlotFree storage slot = AllByRecursion (λ held. is_of_other_slot slot held.area ≡ true) storage

-- a task that is ready to be attached: its areas are made, and it, its level and its input are there
pub record IsReadyTask (storage : Storage) (start : Start) (number : ℕ) (input : Input) (places : Places)
    (level : NewLevel) (task : TaskState) (held : Input) (after : Storage) : Type 0 where
  pub placed : ArePlacesFor storage start places
  pub made : after ≡ with_areas_of storage start places
  pub addresses : ArePlacesBelow places
  pub level_is : level ≡ level_of start places
  pub task_is : task ≡ task_of_start start number places
  pub input_is : held ≡ input
