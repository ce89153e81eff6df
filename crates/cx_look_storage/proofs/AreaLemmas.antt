-- A walk over the areas, one area at a time.
use Rattle.std.proofs.Common.{◌≡◌, ℕ, ◌+◌, ◌<◌, ◌≤◌, ◌^◌, Some, None, List, [], ◌∷◌, ◌++◌, refl, sym, ap, ◌∙◌, inl, inr, arith, append_assoc, append-nil, nat_le}
use Rattle.std.specs.List.{AllByRecursion}
use Rattle.std.proofs.lemmas.Option.{none-some, same_Some}
use Rattle.std.proofs.lemmas.Bool.{cases_Bool, leb-true, leb-false, le-leb, lt-leb}
use Rattle.cx_storage.specs.Facts.Sound.{IsSoundStorage-apart, IsSoundStorage-head, IsSoundStorage-tail}
use Rattle.cx_storage.specs.Storage.{Storage, areas_of, end_of, next_area, IsSoundStorage}
use Rattle.cx_storage.specs.declared.areas.Area.{Area}
use Rattle.cx_look_storage.specs.Parts.Walk.{areas_from}

-- areas that all start at an address or above
all_from : (s : Storage) (e from : ℕ) → from ≤ e → AllByRecursion (λ later. e ≤ later.area.start) s → areas_from s from ≡ areas_of s
unfolding areas_of
all_from [] e from low above = refl
all_from (h ∷ hs) e from low above = rw (le-leb from h.area.start (omega (arith, above.0))) (ap (λ areas. h.area ∷ areas) (all_from hs e from low above.1))

-- at first all are left
pub none_before : (s : Storage) → areas_from s 0 ≡ areas_of s
unfolding areas_of
none_before [] = refl
none_before (h ∷ hs) = rw (le-leb 0 h.area.start (omega arith)) (ap (λ areas. h.area ∷ areas) (none_before hs))

-- the next area starts there or above, and below 2^24
pub next_start : (s : Storage) (from : ℕ) (area : Area) → IsSoundStorage s → next_area s from ≡ Some area → (from ≤ area.start) × (area.start < 2 ^ 24)
unfolding next_area
next_start [] from area sound e = absurd (none-some area e)
next_start (h ∷ hs) from area sound e = elim (cases_Bool (nat_le from h.area.start)) [
  | inl low ↦
      let same : h.area ≡ area = same_Some _ _ (rw low at e) in
      let whole = IsSoundStorage-head h hs sound in
      rw (← same) (leb-true _ _ low, omega (arith, whole.nonempty, whole.below))
  | inr high ↦ next_start hs from area (IsSoundStorage-tail h hs sound) (rw high at e)
]

-- it is the first of those that are left, and the others start after it
pub next_left : (s : Storage) (from : ℕ) (area : Area) → IsSoundStorage s → next_area s from ≡ Some area → areas_from s from ≡ area ∷ areas_from s (area.start + 1)
unfolding next_area
next_left [] from area sound e = absurd (none-some area e)
next_left (h ∷ hs) from area sound e = elim (cases_Bool (nat_le from h.area.start)) [
  | inl low ↦
      let same : h.area ≡ area = same_Some _ _ (rw low at e) in
      let apart = IsSoundStorage-apart h hs sound in
      let nonempty = (IsSoundStorage-head h hs sound).nonempty in
      let first = all_from hs (end_of h.area) from (omega (arith, nonempty, leb-true _ _ low)) apart in
      let second = all_from hs (end_of h.area) (h.area.start + 1) (omega (arith, nonempty)) apart in
      rw (← same) (rw (low, lt-leb (h.area.start + 1) h.area.start (omega arith)) (ap (λ areas. h.area ∷ areas) (first ∙ sym second)))
  | inr high ↦
      let tail = IsSoundStorage-tail h hs sound in
      let start = next_start hs from area tail (rw high at e) in
      rw (high, lt-leb (area.start + 1) h.area.start (omega (arith, start.0, leb-false _ _ high))) (next_left hs from area tail (rw high at e))
]

pub none_left : (s : Storage) (from : ℕ) → next_area s from ≡ None → areas_from s from ≡ []
unfolding next_area
none_left [] from e = refl
none_left (h ∷ hs) from e = elim (cases_Bool (nat_le from h.area.start)) [
  | inl low ↦ absurd (none-some h.area (sym (rw low at e)))
  | inr high ↦ rw high (none_left hs from (rw high at e))
]

-- one more area is reported
pub one_more : (s : Storage) (from : ℕ) (area : Area) (before after all : List Area) → IsSoundStorage s → next_area s from ≡ Some area → after ≡ before ++ area ∷ []
    → before ++ areas_from s from ≡ all → after ++ areas_from s (area.start + 1) ≡ all
one_more s from area before after all sound e added left =
    rw added (append_assoc before (area ∷ []) (areas_from s (area.start + 1)) ∙ ap (λ rest. before ++ rest) (sym (next_left s from area sound e)) ∙ left)

-- all are reported
pub all_reported : (s : Storage) (from : ℕ) (before all : List Area) → next_area s from ≡ None → before ++ areas_from s from ≡ all → before ≡ all
all_reported s from before all e left = sym (append-nil before) ∙ ap (λ rest. before ++ rest) (sym (none_left s from e)) ∙ left
