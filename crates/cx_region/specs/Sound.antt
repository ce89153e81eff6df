-- What holds of a region in every state that its events reach (this product's own): areas are disjoint, each task has
-- its areas, a terminal without a task owns nothing, names are distinct, and the limits are kept.
use Rattle.std.specs.Prelude.{◌≡◌, ℕ, suc, ◌≤◌, Bool, true, ◌&&◌, ◌||◌, ◌==◌, List, [], ◌∷◌, length, Some, is_some, ⊤, MatchOption}
use Rattle.std.specs.List.{AllByRecursion, IsDistinct, list_any}
use Rattle.std.specs.Map.{keys_of}
use Rattle.cx_storage.specs.declared.areas.Area.{Area}
use Rattle.cx_storage.specs.declared.areas.Kind.TheVariants.{Fixed}
use Rattle.cx_storage.specs.Storage.{Storage, area_at, IsSoundStorage}
use Rattle.cx_service.specs.Queues.{AreSoundQueues}
use Rattle.cx_service.specs.Resources.{AreSoundResources}
use Rattle.cx_region_state.specs.Areas.{IsSoundProgram}
use Rattle.cx_region_task.specs.Sound.{IsSoundTask}
use Rattle.cx_region.specs.State.{TerminalState, RegionState}
use Rattle.cx_ebcdic.specs.Names.{is_name}

abbrev pub IsSoundTerminal : Storage → TerminalState → Type 0
IsSoundTerminal storage terminal = MatchOption terminal.task ⊤ (λ task. IsSoundTask storage terminal.entry.slot task)

-- the terminals' slots are their positions, counted from 1
abbrev pub AreNumbered : ℕ → List (List ℕ × TerminalState) → Type 0
AreNumbered from [] = ⊤
AreNumbered from (entry ∷ entries) = (entry.1.entry.slot ≡ from) × AreNumbered (suc from) entries

-- a terminal of the slot has a task
abbrev pub is_live : List (List ℕ × TerminalState) → ℕ → Bool
is_live terminals slot = list_any (λ entry. (entry.1.entry.slot == slot) && is_some entry.1.task) terminals

-- an area is the region's own, or that of a live task
abbrev pub IsOwned : List (List ℕ × TerminalState) → Area → Type 0
IsOwned terminals area = (area.owner.slot == 0) || is_live terminals area.owner.slot ≡ true

pub record IsSound (region : RegionState) : Type 0 where
  pub storage : IsSoundStorage region.shared.storage
  pub cwa_stands : area_at region.shared.storage 0x001000
      ≡ Some (record { start = 0x001000; len = 512; owner = record { slot = 0; kind = Fixed } })
  pub programs_distinct : IsDistinct is_name (keys_of region.shared.programs)
  pub transactions_distinct : IsDistinct is_name (keys_of region.transactions)
  pub terminals_distinct : IsDistinct is_name (keys_of region.terminals)
  pub programs_few : length region.shared.programs ≤ 64
  pub transactions_few : length region.transactions ≤ 64
  pub terminals_few : length region.terminals ≤ 16
  pub programs_sound : AllByRecursion (λ entry. IsSoundProgram entry.1) region.shared.programs
  pub numbered : AreNumbered 1 region.terminals
  pub tasks : AllByRecursion (λ entry. IsSoundTerminal region.shared.storage entry.1) region.terminals
  pub areas : AllByRecursion (λ held. IsOwned region.terminals held.area) region.shared.storage
  pub resources : AllByRecursion (λ entry. is_live region.terminals entry.1.owner ≡ true) region.shared.resources
  pub queues_sound : AreSoundQueues region.shared.queues
  pub resources_sound : AreSoundResources region.shared.resources
  pub time : region.time ≤ 999999
  pub date : region.date ≤ 99999
  pub counter : region.counter ≤ 9999999
