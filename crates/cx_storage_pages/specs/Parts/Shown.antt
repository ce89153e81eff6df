-- What holds of areas and their pages.
use Rattle.std.specs.Prelude.{◌≡◌, ℕ, suc, ◌%◌, List, [], ◌∷◌, Vec, nat_lt, if◌then◌else◌}
use Rattle.std.specs.Global.{Global}
use Rattle.std.specs.List.{AllByRecursion}
use Rattle.cx_storage.specs.Storage.{Storage, byte_at, IsSoundStorage}
use Rattle.cx_storage.specs.declared.areas.Area.{Area}
use Rattle.cx_storage_pages.specs.declared.page.Page.{Page}
use Rattle.cx_storage_pages.specs.Pages.{storage_of, byte_in_pages}

-- the storage that a table of areas and its pages show
abbrev pub stored : Vec Area Global → Vec Page Global → Storage
stored areas pages = storage_of areas.items pages.items

abbrev pub IsAligned : Area → Type 0
IsAligned area = area.start % 16 ≡ 0

-- the areas don't meet and start at multiples of 16, and a byte is present exactly where one has its address
unfoldable pub IsShown : List Area → List Page → Type 0
IsShown areas pages =
    IsSoundStorage (storage_of areas pages) × AllByRecursion IsAligned areas
    × ((x : ℕ) → byte_in_pages pages x ≡ byte_at (storage_of areas pages) x)

-- how many areas start before an address
abbrev pub areas_before : ℕ → List Area → ℕ
areas_before start [] = 0
areas_before start (area ∷ areas) = if nat_lt area.start start then suc (areas_before start areas) else 0
