-- Where an area is in the table.
use Rattle.std.proofs.Common.{◌≡◌, ◌≢◌, ℕ, zero, suc, ◌+◌, ◌<◌, ◌≤◌, ◌==◌, true, false, refl, ap, ◌∙◌, arith, inl, inr, List, [], ◌∷◌, length, slice_get, Option, Some, None, nat_lt, if◌then◌else◌, get_or}
use Rattle.std.proofs.lemmas.Bool.{cases_Bool, cases_eq, eq-eqb, ne_eqb, cases_lt, lt-ltb, le-ltb, le-leb, lt-leb, ltb-true, ltb-false}
use Rattle.std.specs.List.{AllByRecursion, AllWithin}
use Rattle.std.specs.Option.{option_and_then}
use Rattle.cx_storage.specs.Storage.{Storage, area_at, next_area, IsSoundStorage}
use Rattle.cx_storage.specs.Facts.Sound.{IsSoundStorage-head, IsSoundStorage-tail, IsSoundStorage-apart}
use Rattle.cx_storage.specs.declared.areas.Area.{Area}
use Rattle.cx_storage_pages.specs.declared.page.Page.{Page}
use Rattle.cx_storage_pages.specs.Parts.Shown.{areas_before, IsShown}
use Rattle.cx_storage_pages.specs.Pages.{storage_of, held_in}
use Rattle.cx_storage_pages.proofs.ShownLemmas.{shown_sound}

-- the later areas start after an area
later_at : (areas : List Area) (pages : List Page) (e j : ℕ) (d : Area) → AllByRecursion (λ later. e ≤ later.area.start) (storage_of areas pages) → j < length areas → e ≤ (get_or areas j d).start
unfolding storage_of
later_at [] pages e j d all h = absurd (omega arith)
later_at (area ∷ areas) pages e zero d all h = all.0
later_at (area ∷ areas) pages e (suc j) d all h = later_at areas pages e j d all.1 (omega arith)

starts_rise : (areas : List Area) (pages : List Page) (i j : ℕ) (d : Area) → IsSoundStorage (storage_of areas pages) → i ≤ j → j < length areas → (get_or areas i d).start ≤ (get_or areas j d).start
unfolding storage_of
starts_rise [] pages i j d ok le h = absurd (omega arith)
starts_rise (area ∷ areas) pages zero zero d ok le h = omega arith
starts_rise (area ∷ areas) pages zero (suc j) d ok le h =
    let later = later_at areas pages (area.start + area.len) j d (IsSoundStorage-apart (held_in pages area) (storage_of areas pages) ok) (omega arith) in omega (arith, later)
starts_rise (area ∷ areas) pages (suc i) zero d ok le h = absurd (omega arith)
starts_rise (area ∷ areas) pages (suc i) (suc j) d ok le h =
    starts_rise areas pages i j d (IsSoundStorage-tail (held_in pages area) (storage_of areas pages) ok) (omega arith) (omega arith)

pub partitioned : (areas : List Area) (pages : List Page) (start i j : ℕ) (d : Area) → IsShown areas pages → i ≤ j → j < length areas
    → nat_lt (get_or areas j d).start start ≡ true → nat_lt (get_or areas i d).start start ≡ true
partitioned areas pages start i j d shown le h e =
    let rise = starts_rise areas pages i j d (shown_sound areas pages shown) le h in
    let below = ltb-true _ _ e in
    lt-ltb _ _ (omega (arith, rise, below))

pub spot_point : (areas : List Area) (start i : ℕ) → i ≤ length areas → AllWithin (λ area. nat_lt area.start start ≡ true) areas 0 i
    → AllWithin (λ area. nat_lt area.start start ≡ false) areas i (length areas) → i ≡ areas_before start areas
spot_point [] start i h below above = omega arith
spot_point (area ∷ areas) start zero h below above = let here = above 0 area (omega arith) (omega arith) in rw here refl
spot_point (area ∷ areas) start (suc i) h below above =
    let here = below 0 area (omega arith) (omega arith) in
    rw here (ap suc (spot_point areas start i (omega arith) (λ k d low high. below (suc k) d (omega arith) (omega arith)) (λ k d low high. above (suc k) d (omega arith) (omega arith))))

-- the area at the spot of a start is the one that starts there
area_after : (s : Storage) (e start : ℕ) → AllByRecursion (λ later. e ≤ later.area.start) s → start < e → area_at s start ≡ None
unfolding area_at
area_after [] e start apart below = refl
area_after (h ∷ hs) e start apart below = rw (ne_eqb h.area.start start (λ d. absurd (omega (arith, apart.0)))) (area_after hs e start apart.1 below)

if_starts : ℕ → Area → Option Area
if_starts start area = if area.start == start then Some area else None

area_spot : (areas : List Area) (pages : List Page) (start : ℕ) → IsSoundStorage (storage_of areas pages)
    → area_at (storage_of areas pages) start ≡ option_and_then (if_starts start) (slice_get areas (areas_before start areas))
unfolding area_at storage_of if_starts
area_spot [] pages start ok = refl
area_spot (area ∷ areas) pages start ok = elim (cases_Bool (nat_lt area.start start)) [
  | inl e ↦
      let below = ltb-true _ _ e in
      rw (e, ne_eqb area.start start (λ d. absurd (omega (arith, below)))) (area_spot areas pages start (IsSoundStorage-tail (held_in pages area) (storage_of areas pages) ok))
  | inr e ↦
      let above = ltb-false _ _ e in
      elim (cases_eq area.start start) [
        | inl same ↦ rw (e, eq-eqb area.start start same) refl
        | inr ne ↦
            let whole = IsSoundStorage-head (held_in pages area) (storage_of areas pages) ok in
            let gone = area_after (storage_of areas pages) (area.start + area.len) start (IsSoundStorage-apart (held_in pages area) (storage_of areas pages) ok) (omega (arith, above)) in
            rw (e, ne_eqb area.start start ne) gone
      ]
]

pub area_here : (areas : List Area) (pages : List Page) (start i : ℕ) (area : Area) → IsShown areas pages → i ≡ areas_before start areas → slice_get areas i ≡ Some area → area.start ≡ start
    → area_at (storage_of areas pages) start ≡ Some area
unfolding if_starts
area_here areas pages start i area shown at e same = area_spot areas pages start (shown_sound areas pages shown) ∙ rw (← at, e, eq-eqb area.start start same) refl

pub area_elsewhere : (areas : List Area) (pages : List Page) (start i : ℕ) (area : Area) → IsShown areas pages → i ≡ areas_before start areas → slice_get areas i ≡ Some area → area.start ≢ start
    → area_at (storage_of areas pages) start ≡ None
unfolding if_starts
area_elsewhere areas pages start i area shown at e ne = area_spot areas pages start (shown_sound areas pages shown) ∙ rw (← at, e, ne_eqb area.start start ne) refl

pub area_past : (areas : List Area) (pages : List Page) (start i : ℕ) → IsShown areas pages → i ≡ areas_before start areas → slice_get areas i ≡ None → area_at (storage_of areas pages) start ≡ None
area_past areas pages start i shown at e = area_spot areas pages start (shown_sound areas pages shown) ∙ rw (← at, e) refl

-- the area at the spot of an address is the first that starts there or above
next_spot : (areas : List Area) (pages : List Page) (from : ℕ) → next_area (storage_of areas pages) from ≡ slice_get areas (areas_before from areas)
unfolding next_area storage_of
next_spot [] pages from = refl
next_spot (area ∷ areas) pages from = elim (cases_lt area.start from) [
  | inl below ↦ rw (lt-ltb area.start from below, lt-leb from area.start below) (next_spot areas pages from)
  | inr above ↦ rw (le-ltb area.start from above, le-leb from area.start above) refl
]

pub next_at : (areas : List Area) (pages : List Page) (from i : ℕ) → i ≡ areas_before from areas → next_area (storage_of areas pages) from ≡ slice_get areas i
next_at areas pages from i at = next_spot areas pages from ∙ rw (← at) refl
