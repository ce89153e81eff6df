-- What areas and pages show is a proposition, and sound.
use Rattle.std.specs.Prelude.{◌≡◌, ℕ, ◌%◌, List, [], ◌∷◌}
use Rattle.std.specs.Coded.{Π_prop, coded_option, coded_ℕ, Coded-set}
use Rattle.std.specs.List.{AllByRecursion, AllByRecursion-prop}
use Rattle.cx_storage.specs.Aligned.{AreAligned}
use Rattle.cx_storage.specs.Storage.{byte_at, IsSoundStorage}
use Rattle.cx_storage.specs.Facts.Sound.{IsSoundStorage-prop}
use Rattle.cx_storage.specs.declared.areas.Area.{Area}
use Rattle.cx_storage_pages.specs.declared.page.Page.{Page}
use Rattle.cx_storage_pages.specs.Pages.{byte_in_pages, storage_of}
use Rattle.cx_storage_pages.specs.Parts.Shown.{IsAligned, IsShown}

pub IsShown-prop : (areas : List Area) (pages : List Page) → IsProp (IsShown areas pages)
unfolding IsShown
IsShown-prop areas pages =
    let sound = IsSoundStorage-prop (storage_of areas pages) in
    let aligned = AllByRecursion-prop IsAligned (λ area. Coded-set coded_ℕ (area.start % 16) 0) areas in
    let bytes : IsProp ((x : ℕ) → byte_in_pages pages x ≡ byte_at (storage_of areas pages) x) = Π_prop (λ x. Coded-set (coded_option coded_ℕ) (byte_in_pages pages x) (byte_at (storage_of areas pages) x)) in
    hlevel (sound, aligned, bytes)

pub IsShown-sound : (areas : List Area) (pages : List Page) → IsShown areas pages → IsSoundStorage (storage_of areas pages)
unfolding IsShown
IsShown-sound areas pages shown = shown.0

IsShown-aligned : (areas : List Area) (pages : List Page) → AllByRecursion IsAligned areas → AreAligned (storage_of areas pages)
unfolding AreAligned storage_of
IsShown-aligned [] pages all = tt
IsShown-aligned (area ∷ areas) pages all = (all.0, IsShown-aligned areas pages all.1)

pub shown_at_multiples : (areas : List Area) (pages : List Page) → IsShown areas pages → AreAligned (storage_of areas pages)
unfolding IsShown
shown_at_multiples areas pages shown = IsShown-aligned areas pages shown.1
