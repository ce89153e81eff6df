-- What areas and pages show, and what shows a storage.
use Rattle.std.proofs.Common.{◌≡◌, ℕ, suc, ◌+◌, ◌-◌, ◌<◌, ◌≤◌, refl, sym, ap, ◌∙◌, arith, inl, inr, List, [], ◌∷◌, map, length, slice_get, Some}
use Rattle.std.specs.List.{AllByRecursion}
use Rattle.cx_storage.specs.Storage.{Storage, end_of, byte_at, areas_of, IsSoundStorage}
use Rattle.cx_storage.specs.Facts.Sound.{sound_nil, IsSoundStorage-head, IsSoundStorage-tail, IsSoundStorage-apart, covers_cases, covers_from}
use Rattle.cx_storage.specs.declared.areas.Area.{Area}
use Rattle.cx_storage_pages.specs.declared.page.Page.{Page}
use Rattle.cx_storage_pages.specs.Pages.{byte_in_pages, cells, held_in, storage_of}
use Rattle.cx_storage_pages.specs.Parts.Shown.{IsAligned, IsShown}

cells_are : (pages : List Page) (a : ℕ) (bytes : List ℕ) → ((k : ℕ) → k < length bytes → byte_in_pages pages (a + k) ≡ slice_get bytes k) → cells pages a (length bytes) ≡ bytes
cells_are pages a [] each = refl
cells_are pages a (b ∷ bs) each =
    let here : a + 0 ≡ a = omega arith in
    let first : byte_in_pages pages a ≡ Some b = rw here at (each 0 (omega arith)) in
    let rest = cells_are pages (a + 1) bs (λ k h. let next : a + 1 + k ≡ a + suc k = omega arith in rw next (each (suc k) (omega arith))) in
    rw (first, rest) refl

-- pages that have the bytes of a storage show it
shows_held : (s : Storage) (e : ℕ) (pages : List Page) → IsSoundStorage s → AllByRecursion (λ h. e ≤ h.area.start) s → ((x : ℕ) → e ≤ x → byte_in_pages pages x ≡ byte_at s x)
    → storage_of (areas_of s) pages ≡ s
unfolding storage_of areas_of byte_at
shows_held [] e pages ok low each = refl
shows_held (h ∷ hs) e pages ok low each =
    let whole = IsSoundStorage-head h hs ok in
    let bytes : cells pages h.area.start (length h.bytes) ≡ h.bytes = cells_are pages h.area.start h.bytes (λ k l.
    let inside = covers_from h.area (h.area.start + k) (omega arith) (omega (arith, whole.full, l)) in
    let back : h.area.start + k - h.area.start ≡ k = omega arith in
    rw (inside, back) at (each (h.area.start + k) (omega (arith, low.0)))) in
    let rest = shows_held hs (end_of h.area) pages (IsSoundStorage-tail h hs ok) (IsSoundStorage-apart h hs ok) (λ x past. elim (covers_cases h.area x) [
      | inl c ↦ absurd (omega (arith, c.2, past))
      | inr c ↦ rw c.0 at (each x (omega (arith, low.0, past)))
    ]) in
    let contents : cells pages h.area.start h.area.len ≡ h.bytes = ap (λ n. cells pages h.area.start n) (sym whole.full) ∙ bytes in
    let first : held_in pages h.area ≡ h = ap (λ (bs : List ℕ). record { area = h.area; bytes = bs }) contents in
    ap (λ k. k ∷ map (held_in pages) (areas_of hs)) first ∙ ap (λ ks. h ∷ ks) rest

all_low : (s : Storage) → AllByRecursion (λ h. 0 ≤ h.area.start) s
all_low [] = tt
all_low (h ∷ hs) = (omega arith, all_low hs)

-- areas and pages show a storage, and as they should
pub record Shows (s : Storage) (areas : List Area) (pages : List Page) : Type 0 where
  pub is : storage_of areas pages ≡ s
  pub shown : IsShown areas pages

pub shows : (s : Storage) (areas : List Area) (pages : List Page) → IsSoundStorage s → areas_of s ≡ areas → AllByRecursion IsAligned areas → ((x : ℕ) → byte_in_pages pages x ≡ byte_at s x) → Shows s areas pages
unfolding IsShown
shows s areas pages ok same aligned each =
    let is : storage_of areas pages ≡ s = rw (← same) (shows_held s 0 pages ok (all_low s) (λ x _. each x)) in
    record { is = is; shown = (rw is ok, aligned, λ x. rw is (each x)) }

pub areas_shown : (areas : List Area) (pages : List Page) → areas_of (storage_of areas pages) ≡ areas
unfolding areas_of storage_of
areas_shown [] pages = refl
areas_shown (area ∷ areas) pages = ap (λ rest. area ∷ rest) (areas_shown areas pages)

-- what is shown
pub shown_sound : (areas : List Area) (pages : List Page) → IsShown areas pages → IsSoundStorage (storage_of areas pages)
unfolding IsShown
shown_sound areas pages shown = shown.0

pub shown_aligned : (areas : List Area) (pages : List Page) → IsShown areas pages → AllByRecursion IsAligned areas
unfolding IsShown
shown_aligned areas pages shown = shown.1

pub shown_byte : (areas : List Area) (pages : List Page) (x : ℕ) → IsShown areas pages → byte_in_pages pages x ≡ byte_at (storage_of areas pages) x
unfolding IsShown
shown_byte areas pages x shown = shown.2 x

-- an empty store
pub nothing_shown : IsShown [] []
unfolding IsShown storage_of byte_in_pages byte_at
nothing_shown = (sound_nil, tt, λ x. refl)

pub nothing_is : storage_of [] [] ≡ []
unfolding storage_of
nothing_is = refl
