-- The steps of the scan for a place.
use Rattle.std.proofs.Common.{◌⊎◌, ◌≡◌, ℕ, ◌+◌, ◌-◌, ◌*◌, ◌/◌, ◌%◌, ◌<◌, ◌≤◌, true, false, refl, sym, ◌∙◌, arith, inl, inr, List, [], ◌∷◌, Option, Some, None, is_some, length}
use Rattle.std.proofs.lemmas.Bool.{cases_lt}
use Rattle.std.specs.Prelude.{OnErr, Result, Ok, Err}
use Rattle.std.proofs.lemmas.Option.{slice_get-get_or, none-some}
use Rattle.std.specs.List.{AllByRecursion}
use Rattle.cx_storage.specs.Storage.{Storage, byte_at, IsSoundStorage}
use Rattle.cx_storage.specs.Place.{CanPlace, IsLeastPlace}
use Rattle.cx_storage.specs.Laws.Places.{PlaceIsFree}
use Rattle.cx_storage.specs.Facts.Sound.{IsSoundStorage-head, IsSoundStorage-tail, covers_cases}
use Rattle.cx_storage.specs.declared.areas.Area.{Area}
use Rattle.cx_storage_pages.specs.declared.page.Page.{Page}
use Rattle.cx_storage_pages.specs.Parts.Frame.{Skips}
use Rattle.cx_storage_pages.specs.Pages.{byte_in_pages, storage_of, held_in}
use Rattle.cx_storage_pages.specs.Parts.Shown.{IsAligned, IsShown}
use Rattle.cx_storage_pages.proofs.ShownLemmas.{shown_sound, shown_aligned, shown_byte}

-- a granule whose first byte is absent has none
front_absent : (areas : List Area) (pages : List Page) (x : ℕ) → IsSoundStorage (storage_of areas pages) → AllByRecursion IsAligned areas
    → byte_at (storage_of areas pages) (x / 16 * 16) ≡ None → byte_at (storage_of areas pages) x ≡ None
unfolding byte_at storage_of
front_absent [] pages x ok aligned gone = refl
front_absent (b ∷ bs) pages x ok aligned gone = elim (covers_cases b (x / 16 * 16)) [
  | inl c ↦
      let whole = IsSoundStorage-head (held_in pages b) (storage_of bs pages) ok in
      let full : length (held_in pages b).bytes ≡ b.len = whole.full in
      let here = rw c.0 at gone in
      absurd (none-some _ (sym here ∙ slice_get-get_or (held_in pages b).bytes (x / 16 * 16 - b.start) 0 (omega (arith, full, c.1, c.2))))
  | inr c ↦ elim (covers_cases b x) [
    | inl d ↦
        let even : b.start % 16 ≡ 0 = aligned.0 in
        absurd (elim c.1 [ inl before ↦ omega (arith, before, even, d.1) | inr after ↦ omega (arith, after, d.2) ])
    | inr d ↦ rw d.0 (front_absent bs pages x (IsSoundStorage-tail (held_in pages b) (storage_of bs pages) ok) aligned.1 (rw c.0 at gone))
  ]
]

-- how far the scan is: the granules from `from` up to, but not including, `g` are free, and no place is before the
-- first
pub record IsScanned (s : Storage) (first last len from g : ℕ) : Type 0 where
  pub above : first ≤ from * 16
  pub order : from ≤ g
  pub short : g ≤ from + (len + 15) / 16
  pub free : (x : ℕ) → from * 16 ≤ x → x < g * 16 → byte_at s x ≡ None
  pub none : (b : ℕ) → CanPlace s first last len b → from * 16 ≤ b

pub scan_start : (s : Storage) (first last len : ℕ) → IsScanned s first last len ((first + 15) / 16) ((first + 15) / 16)
unfolding CanPlace
scan_start s first last len = record {
  above = omega arith;
  order = omega arith;
  short = omega arith;
  free = λ x low high. absurd (omega arith);
  none = λ b can. let even = can.0 in let low = can.1 in omega (arith, even, low);
}

pub scan_free : (areas : List Area) (pages : List Page) (first last len from g next : ℕ) → IsShown areas pages → IsScanned (storage_of areas pages) first last len from g → g ≤ next → next ≤ from + (len + 15) / 16
    → ((j : ℕ) → g ≤ j → j < next → byte_in_pages pages (j * 16) ≡ None) → IsScanned (storage_of areas pages) first last len from next
scan_free areas pages first last len from g next shown scan more most gone = record {
  above = scan.above;
  order = omega (arith, scan.order, more);
  short = most;
  free = λ x low high. elim (cases_lt x (g * 16)) [
    | inl before ↦ scan.free x low before
    | inr here ↦ front_absent areas pages x (shown_sound areas pages shown) (shown_aligned areas pages shown) (sym (shown_byte areas pages (x / 16 * 16) shown) ∙ gone (x / 16) (omega (arith, here)) (omega (arith, high)))
  ];
  none = scan.none;
}

taken_absent : (o : Option ℕ) → is_some o ≡ true → o ≡ None → ⊥
taken_absent None e gone = cc
taken_absent (Some x) e gone = cc

pub scan_taken : (areas : List Area) (pages : List Page) (first last len from g next : ℕ) → IsShown areas pages → PlaceIsFree → 0 < len → IsScanned (storage_of areas pages) first last len from g → g < from + (len + 15) / 16 → g < next
    → ((j : ℕ) → g ≤ j → j < next → is_some (byte_in_pages pages (j * 16)) ≡ true) → IsScanned (storage_of areas pages) first last len next next
scan_taken areas pages first last len from g next shown law some scan more on taken = record {
  above = omega (arith, scan.above, scan.order, on);
  order = omega arith;
  short = omega arith;
  free = λ x low high. absurd (omega arith);
  none = λ b can.
      let parts = (law (storage_of areas pages) first last len b (shown_sound areas pages shown) some).0 can in
      let low = scan.none b can in
      let even = parts.0 in
      elim (cases_lt b (next * 16)) [
        | inr after ↦ after
        | inl before ↦ elim (cases_lt b (g * 16)) [
          | inl front ↦
              let within : g * 16 < b + len = omega (arith, low, more) in
              absurd (taken_absent _ (taken g (omega arith) on) (shown_byte areas pages (g * 16) shown ∙ parts.3 (g * 16) (omega (arith, front)) within))
          | inr inside ↦
              let place : b / 16 * 16 ≡ b = omega (arith, even) in
              absurd (taken_absent _ (rw place at (taken (b / 16) (omega (arith, inside)) (omega (arith, before)))) (shown_byte areas pages b shown ∙ parts.3 b (omega arith) (omega (arith, some))))
        ]
      ];
}

pub scan_found : (areas : List Area) (pages : List Page) (first last len from g : ℕ) → IsShown areas pages → PlaceIsFree → 0 < len → IsScanned (storage_of areas pages) first last len from g
    → from + (len + 15) / 16 ≤ g → from * 16 + len ≤ last + 1 → IsLeastPlace (storage_of areas pages) first last len (Some (from * 16))
unfolding IsLeastPlace
scan_found areas pages first last len from g shown law some scan whole fits =
    ((law (storage_of areas pages) first last len (from * 16) (shown_sound areas pages shown) some).1 (omega arith, scan.above, fits, λ x low high. scan.free x low (omega (arith, whole))), scan.none)

pub scan_none : (s : Storage) (first last len from g : ℕ) → IsScanned s first last len from g → last + 1 < from * 16 + len → IsLeastPlace s first last len None
unfolding IsLeastPlace CanPlace
scan_none s first last len from g scan past = λ b can. let low = scan.none b can in omega (arith, low, can.2, past)

pub is_none : (o : Option ℕ) → is_some o ≡ false → o ≡ None
is_none None e = refl
is_none (Some x) e = cc

-- what a place found is
pub placed_even : (s : Storage) (first last len a : ℕ) → IsLeastPlace s first last len (Some a) → a % 16 ≡ 0
unfolding IsLeastPlace CanPlace
placed_even s first last len a placed = placed.0.0

pub placed_fits : (s : Storage) (first last len a : ℕ) → IsLeastPlace s first last len (Some a) → a + len ≤ last + 1
unfolding IsLeastPlace CanPlace
placed_fits s first last len a placed = placed.0.2

pub placed_some : (s : Storage) (first last len a : ℕ) → IsLeastPlace s first last len (Some a) → IsLeastPlace s first last len None → ⊥
unfolding IsLeastPlace
placed_some s first last len a placed none = none a placed.0

pub on_err : {X E : Type 0} (r : Result X E) (P : Type 0) → P → OnErr r P
on_err (Ok x) P p = tt
on_err (Err e) P p = p

-- a page in which no place begins before its free end
pub scan_skip : (areas : List Area) (pages : List Page) (first last len from g tail more : ℕ) → IsShown areas pages → PlaceIsFree → 0 < len → IsScanned (storage_of areas pages) first last len from g
    → g / 256 * 256 ≤ from → Skips (λ k. byte_in_pages pages (g / 256 * 4096 + k)) ((len + 15) / 16) tail → (from ≤ more) → (g / 256 * 256 + 256 ≤ more + tail) → (more ≡ from) ⊎ (more + tail ≡ g / 256 * 256 + 256)
    → IsScanned (storage_of areas pages) first last len more (g / 256 * 256 + 256)
scan_skip areas pages first last len from g tail more shown law some scan inside skips low high which = record {
  above = omega (arith, scan.above, low);
  order = elim which [ inl e ↦ omega (arith, e, scan.order) | inr e ↦ omega (arith, e) ];
  short = omega (arith, skips.small, high);
  free = λ x from below.
      let place : g / 256 * 4096 + (x - g / 256 * 4096) ≡ x = omega (arith, from, low, inside) in
      let gone = skips.free (x - g / 256 * 4096) (omega (arith, from, high, low, inside)) (omega (arith, below, from, low, inside)) in
      sym (shown_byte areas pages x shown) ∙ rw place at gone;
  none = λ b can.
      let parts = (law (storage_of areas pages) first last len b (shown_sound areas pages shown) some).0 can in
      let even = parts.0 in
      let start = scan.none b can in
      elim (cases_lt (b / 16) (g / 256 * 256 + 256)) [
        | inr past ↦ elim which [ inl e ↦ omega (arith, e, start) | inr e ↦ omega (arith, e, past, even) ]
        | inl before ↦
            let after = skips.none (b / 16 - g / 256 * 256) (omega (arith, before)) (λ j near far end.
            shown_byte areas pages (g / 256 * 4096 + j * 16) shown
            ∙ parts.3 (g / 256 * 4096 + j * 16) (omega (arith, near, even, start, inside)) (omega (arith, far, even, start, inside))) in
            elim which [ inl e ↦ omega (arith, e, start) | inr e ↦ omega (arith, e, after, even, start, inside) ]
      ];
}
