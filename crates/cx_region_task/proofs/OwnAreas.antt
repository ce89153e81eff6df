-- Areas that other slots own are as they were.
use Rattle.std.proofs.Common.{◌≡◌, ℕ, ◌<◌, ◌≤◌, Bool, true, false, Some, [], ◌∷◌, refl, sym, ◌∙◌, ap, arith, inl, inr}
use Rattle.std.specs.List.{AllByRecursion}
use Rattle.std.proofs.lemmas.Bool.{cases_Bool, cases_eq, eq-eqb, ne_eqb, true≢false}
use Rattle.std.proofs.lemmas.Option.{same_Some}
use Rattle.cx_storage.specs.declared.areas.Area.{Area}
use Rattle.cx_storage.specs.declared.areas.Owner.{Owner}
use Rattle.cx_storage.specs.Storage.{Storage, area_at, areas_of, end_of, is_of_other_slot, starts_elsewhere, with_area, with_areas_kept, AreOrdered, IsWhole, IsSoundStorage}
use Rattle.cx_region_state.specs.Facts.Areas.{freed_put}
use Rattle.cx_region_task.specs.Laws.HalfTurns.{others_areas}

pub areas_filtered : (keeps : Area → Bool) (s t : Storage) → areas_of t ≡ areas_of s → areas_of (with_areas_kept keeps t) ≡ areas_of (with_areas_kept keeps s)
unfolding areas_of with_areas_kept
areas_filtered keeps [] [] e = refl
areas_filtered keeps [] (g ∷ gs) e = cc
areas_filtered keeps (h ∷ hs) [] e = cc
areas_filtered keeps (h ∷ hs) (g ∷ gs) e =
    let first : g.area ≡ h.area = cc in
    let others : areas_of gs ≡ areas_of hs = cc in
    let rest = areas_filtered keeps hs gs others in
    elim (cases_Bool (keeps h.area)) [
      | inl k ↦ let j : keeps g.area ≡ true = ap keeps first ∙ k in rw (k, j, first, rest) refl
      | inr k ↦ let j : keeps g.area ≡ false = ap keeps first ∙ k in rw (k, j) rest
    ]

-- ---- an own area put in
pub put_own : (s : Storage) (slot a len : ℕ) (owner : Owner) → owner.slot ≡ slot → others_areas slot (with_area s (Some a) len owner) ≡ others_areas slot s
put_own s slot a len owner own = ap areas_of (freed_put (is_of_other_slot slot) s a len owner (rw (eq-eqb owner.slot slot own) refl))

-- ---- an own area freed
kept_others : (keeps other : Area → Bool) (s : Storage) → AllByRecursion (λ h. other h.area ≡ true → keeps h.area ≡ true) s
    → with_areas_kept other (with_areas_kept keeps s) ≡ with_areas_kept other s
unfolding with_areas_kept
kept_others keeps other [] all = refl
kept_others keeps other (h ∷ hs) all = elim (cases_Bool (keeps h.area)) [
  | inl k ↦ elim (cases_Bool (other h.area)) [
    | inl o ↦ rw (k, o) (ap (λ l. h ∷ l) (kept_others keeps other hs all.1))
    | inr o ↦ rw (k, o) (kept_others keeps other hs all.1)
  ]
  | inr k ↦ elim (cases_Bool (other h.area)) [
    | inl o ↦ absurd (true≢false (sym (all.0 o) ∙ k))
    | inr o ↦ rw (k, o) (kept_others keeps other hs all.1)
  ]
]

later_elsewhere : (hs : Storage) (slot stg e : ℕ) → stg < e → AllByRecursion (λ later. e ≤ later.area.start) hs
    → AllByRecursion (λ h. is_of_other_slot slot h.area ≡ true → starts_elsewhere stg h.area ≡ true) hs
later_elsewhere [] slot stg e above all = tt
later_elsewhere (h ∷ hs) slot stg e above all = ((λ o. rw (ne_eqb h.area.start stg (omega (arith, above, all.0))) refl), later_elsewhere hs slot stg e above all.1)

elsewhere : (s : Storage) (slot stg : ℕ) (mine : Area) → AllByRecursion IsWhole s → AreOrdered s → area_at s stg ≡ Some mine → mine.owner.slot ≡ slot
    → AllByRecursion (λ h. is_of_other_slot slot h.area ≡ true → starts_elsewhere stg h.area ≡ true) s
unfolding area_at
elsewhere [] slot stg mine whole ordered found own = tt
elsewhere (h ∷ hs) slot stg mine whole ordered found own = elim (cases_eq h.area.start stg) [
  | inl at ↦
      let is : h.area ≡ mine = same_Some h.area mine (rw (eq-eqb h.area.start stg at) at found) in
      let owner : h.area.owner.slot ≡ slot = ap (λ (a : Area). a.owner.slot) is ∙ own in
      let not_other : is_of_other_slot slot h.area ≡ false = rw (eq-eqb h.area.owner.slot slot owner) refl in
      let above : stg < end_of h.area = let some = whole.0.nonempty in omega arith in
      ((λ o. absurd (true≢false (sym o ∙ not_other))), later_elsewhere hs slot stg (end_of h.area) above ordered.0)
  | inr apart ↦ (
    (λ o. rw (ne_eqb h.area.start stg apart) refl),
    elsewhere hs slot stg mine whole.1 ordered.1 (rw (ne_eqb h.area.start stg apart) at found) own,
  )
]

pub freed_own : (s : Storage) (slot stg : ℕ) (mine : Area) → IsSoundStorage s → area_at s stg ≡ Some mine → mine.owner.slot ≡ slot
    → others_areas slot (with_areas_kept (starts_elsewhere stg) s) ≡ others_areas slot s
unfolding IsSoundStorage
freed_own s slot stg mine ok found own = ap areas_of (kept_others (starts_elsewhere stg) (is_of_other_slot slot) s (elsewhere s slot stg mine ok.0 ok.1 found own))

every : (other : Area → Bool) (s : Storage) → AllByRecursion (λ h. other h.area ≡ true → other h.area ≡ true) s
every other [] = tt
every other (h ∷ hs) = ((λ o. o), every other hs)

pub freed_twice : (other : Area → Bool) (s : Storage) → with_areas_kept other (with_areas_kept other s) ≡ with_areas_kept other s
freed_twice other s = kept_others other other s (every other s)
