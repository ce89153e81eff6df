-- The areas of a task, and a program level that begins (this product's own; Application Programmer's Reference Manual,
-- SC33-0077, "Storage Control", "Program Control").
use Rattle.std.specs.Prelude.{◌≡◌, ℕ, ◌≤◌, ◌<◌, ◌^◌, List, [], ◌∷◌, Option, Some, None, unwrap_or}
use Rattle.std.specs.Option.{option_map_or}
use Rattle.std.specs.Int.{w32, to_be_bytes}
use Rattle.cx_base.specs.declared.eistg.EistgField.TheVariants.{Eicap}
use Rattle.cx_base.specs.Eistg.{eistg_field}
use Rattle.cx_storage.specs.declared.areas.Owner.{Owner}
use Rattle.cx_storage.specs.declared.areas.Kind.TheVariants.{Got, System}
use Rattle.cx_storage.specs.Storage.{Storage, area_at, area_from, with_area, after_write}
use Rattle.cx_storage.specs.Address.{address_after}
use Rattle.cx_storage.specs.Place.{IsLeastPlace}
use Rattle.cx_load.specs.declared.program.Loaded.{Loaded}
use Rattle.cx_program.specs.declared.level.Level.{Level}
use Rattle.cx_program.specs.Handles.{no_handles}
use Rattle.cx_region_state.specs.declared.inputs.StorageSpan.{StorageSpan}
use Rattle.cx_region_state.specs.Inputs.{piece_bytes}
use Rattle.cx_region_state.specs.declared.verdict.Copying.{Copying}
use Rattle.cx_region_state.specs.declared.verdict.NewLevel.{NewLevel}

abbrev pub first_of_tasks : ℕ
first_of_tasks = 0x200000

abbrev pub last_of_tasks : ℕ
last_of_tasks = 0xFFFFFF

-- the least place in the range of task storage for n bytes
abbrev pub IsTaskPlace : Storage → ℕ → Option ℕ → Type 0
IsTaskPlace storage len place = IsLeastPlace storage first_of_tasks last_of_tasks len place

-- the owner of the areas that a terminal's task is given unasked, and of those that it gets by its own request
abbrev pub system_owner : ℕ → Owner
system_owner slot = record { slot = slot; kind = System }

abbrev pub got_owner : ℕ → Owner
got_owner slot = record { slot = slot; kind = Got }

-- the area that starts at the address is of this length, and the slot's own
abbrev pub IsAreaOf : Storage → ℕ → ℕ → ℕ → Type 0
IsAreaOf storage slot start len = area_at storage start ≡ Some (area_from start len (system_owner slot))

-- storage with a fresh area at a place, and these bytes in it
unfoldable pub with_filled : Storage → ℕ → ℕ → Owner → List ℕ → Storage
with_filled storage place len owner bytes = after_write (with_area storage (Some place) len owner) place bytes

-- the bytes of a piece that is there
abbrev pub bytes_in : Storage → StorageSpan → List ℕ
bytes_in storage piece = unwrap_or (piece_bytes storage piece) []

-- storage with an area for the copy of a COMMAREA, where one is made
unfoldable pub with_copy_area : Storage → ℕ → Option Copying → Storage
with_copy_area storage slot None = storage
with_copy_area storage slot (Some copying) = with_area storage (Some copying.to) copying.from.len (system_owner slot)

-- storage with the bytes that are copied in their area
unfoldable pub with_copied : Storage → Option Copying → List ℕ → Storage
with_copied storage copying bytes = option_map_or (λ copying. after_write storage copying.to bytes) copying storage

-- ---- a level that begins
-- the length of the COMMAREA; zero without one
abbrev pub length_or_zero : Option StorageSpan → ℕ
length_or_zero commarea = option_map_or (λ piece. piece.len) commarea 0

-- storage with an area of zeros for the level's DFHEISTG; and with its DFHEICAP, which has the COMMAREA's address, or
-- zero
abbrev pub with_stg_area : Storage → ℕ → NewLevel → Storage
with_stg_area storage slot level = with_area storage (Some level.stg) level.loaded.stg_len (system_owner slot)

unfoldable pub with_cap : Storage → NewLevel → Storage
with_cap storage level =
    let address = option_map_or (λ piece. piece.place) level.commarea 0 in
    after_write storage (address_after level.stg (eistg_field Eicap).offset) (to_be_bytes w32 address)

-- entry to a program: R3 and R15 hold its entry address, R13 DFHEISTG, R11 the EIB, and all others zero
unfoldable pub entry_registers : ℕ → ℕ → ℕ → List ℕ
entry_registers entry stg eib =
    0 ∷ 0 ∷ 0 ∷ entry ∷ 0 ∷ 0 ∷ 0 ∷ 0 ∷ 0 ∷ 0 ∷ 0 ∷ eib ∷ 0 ∷ stg ∷ 0 ∷ entry ∷ []

abbrev pub registers_of : NewLevel → ℕ → List ℕ
registers_of level eib = entry_registers level.loaded.entry level.stg eib

-- the level as it begins: no handle entries and no exit, code 0
unfoldable pub entry_level : NewLevel → ℕ → Level
entry_level level eib =
    record {
      program = level.program;
      stg = level.stg;
      stg_len = level.loaded.stg_len;
      calen = length_or_zero level.commarea;
      regs = registers_of level eib;
      cc = 0;
      handles = no_handles;
    }

-- a program's working storage has a length, and its entry is an address
pub record IsSoundProgram (loaded : Loaded) : Type 0 where
  pub stg_low : 80 ≤ loaded.stg_len
  pub stg_high : loaded.stg_len ≤ 65520
  pub entry : loaded.entry < 2 ^ 24
