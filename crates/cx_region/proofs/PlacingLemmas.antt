-- Placing a task's areas one after another.
use Rattle.std.proofs.Common.{◌≡◌, ◌<◌, ◌+◌, ◌^◌, ℕ, zero, suc, false, Option, Some, None, refl, sym, ◌∙◌, ap, subst, arith}
use Rattle.std.specs.Prelude.{◌==◌, IfSome}
use Rattle.std.proofs.lemmas.Option.{none-some, same_Some}
use Rattle.std.proofs.lemmas.Bool.{true≢false, eq-eqb}
use Rattle.cx_storage.specs.declared.areas.Owner.{Owner}
use Rattle.cx_storage.specs.Storage.{Storage, is_of_other_slot, with_area, with_areas_kept}
use Rattle.cx_storage.specs.Facts.Places.{place_decides}
use Rattle.cx_region.specs.Parts.Placing.{ArePlacesBelow, IsSlotFree}
use Rattle.cx_base.specs.Eib.{eib_len}
use Rattle.cx_region_state.specs.Areas.{IsTaskPlace, first_of_tasks, last_of_tasks, system_owner}
use Rattle.cx_region.specs.Attach.{ArePlaced, HasNoPlaces, IsCopyPlace, with_eib_area, with_kept_area}
use Rattle.cx_region.specs.declared.asking.Places.{Places}
use Rattle.cx_region_state.specs.Facts.Areas.{freed_put, kept_all, place_below}
use Rattle.cx_region.proofs.BesideLemmas.{place_from, place_to}

-- no area is put in where there is no place
pub no_area : (s : Storage) (len : ℕ) (owner : Owner) → with_area s None len owner ≡ s
unfolding with_area
no_area s len owner = refl

one_place : (s : Storage) (len a b : ℕ) → IsTaskPlace s len (Some a) → IsTaskPlace s len (Some b) → a ≡ b
one_place s len a b p q = same_Some a b (place_decides s first_of_tasks last_of_tasks len (Some a) (Some b) p q)

not_both : (s : Storage) (len b : ℕ) → IsTaskPlace s len None → IsTaskPlace s len (Some b) → ⊥
not_both s len b p q = none-some b (place_decides s first_of_tasks last_of_tasks len None (Some b) p q)

one_copy : (s : Storage) (len : ℕ) (a b : Option ℕ) → IsCopyPlace s len a → IsCopyPlace s len b → a ≡ b
one_copy s len None None p q = refl
one_copy s len None (Some b) p q = absurd (true≢false (sym (eq-eqb len 0 p) ∙ q.0))
one_copy s len (Some a) None p q = absurd (true≢false (sym (eq-eqb len 0 q) ∙ p.0))
one_copy s len (Some a) (Some b) p q = ap Some (one_place s len a b p.1 q.1)

no_copy : (s : Storage) (len : ℕ) (b : Option ℕ) → len == 0 ≡ false → IsTaskPlace s len None → IsCopyPlace s len b → ⊥
no_copy s len None some p q = true≢false (sym (eq-eqb len 0 q) ∙ some)
no_copy s len (Some b) some p q = not_both s len b p q.1

-- where one of the areas has no place, no three places are there
pub none_for_eib : (s : Storage) (owner : Owner) (len stg_len : ℕ) → IsTaskPlace s eib_len None → HasNoPlaces s owner len stg_len
none_for_eib s owner len stg_len none = record { none = λ places placed. not_both s eib_len places.eib none placed.eib }

pub none_for_copy : (s : Storage) (owner : Owner) (len stg_len eib : ℕ) → IsTaskPlace s eib_len (Some eib) → len == 0 ≡ false
    → IsTaskPlace (with_eib_area s owner eib) len None → HasNoPlaces s owner len stg_len
none_for_copy s owner len stg_len eib at some none =
    record {
      none = λ places placed.
          let same : eib ≡ places.eib = one_place s eib_len eib places.eib at placed.eib in
          let nowhere : IsTaskPlace (with_eib_area s owner places.eib) len None = subst (λ (e : ℕ). IsTaskPlace (with_eib_area s owner e) len None) same none in
          no_copy (with_eib_area s owner places.eib) len places.commarea some nowhere placed.commarea;
    }

none_for_stg : (s : Storage) (owner : Owner) (len stg_len eib : ℕ) (copy : Option ℕ) → IsTaskPlace s eib_len (Some eib) → IsCopyPlace (with_eib_area s owner eib) len copy
    → IsTaskPlace (with_kept_area s owner len eib copy) stg_len None → HasNoPlaces s owner len stg_len
none_for_stg s owner len stg_len eib copy at copied none =
    record {
      none = λ places placed.
          let same : eib ≡ places.eib = one_place s eib_len eib places.eib at placed.eib in
          let copied_there : IsCopyPlace (with_eib_area s owner places.eib) len copy = subst (λ (e : ℕ). IsCopyPlace (with_eib_area s owner e) len copy) same copied in
          let copy_same : copy ≡ places.commarea = one_copy (with_eib_area s owner places.eib) len copy places.commarea copied_there placed.commarea in
          let first : IsTaskPlace (with_kept_area s owner len places.eib copy) stg_len None = subst (λ (e : ℕ). IsTaskPlace (with_kept_area s owner len e copy) stg_len None) same none in
          let nowhere : IsTaskPlace (with_kept_area s owner len places.eib places.commarea) stg_len None = subst (λ (o : Option ℕ). IsTaskPlace (with_kept_area s owner len places.eib o) stg_len None) copy_same first in
          not_both (with_kept_area s owner len places.eib places.commarea) stg_len places.stg nowhere placed.stg;
    }

-- with a copy, and without one
pub none_with : (s : Storage) (owner : Owner) (len stg_len eib copy : ℕ) → IsTaskPlace s eib_len (Some eib) → len == 0 ≡ false → IsTaskPlace (with_eib_area s owner eib) len (Some copy)
    → IsTaskPlace (with_kept_area s owner len eib (Some copy)) stg_len None → HasNoPlaces s owner len stg_len
none_with s owner len stg_len eib copy at some copied none = none_for_stg s owner len stg_len eib (Some copy) at (some, copied) none

pub none_without : (s : Storage) (owner : Owner) (len stg_len eib : ℕ) → IsTaskPlace s eib_len (Some eib) → len ≡ 0 → IsTaskPlace (with_eib_area s owner eib) stg_len None → HasNoPlaces s owner len stg_len
none_without s owner len stg_len eib at nothing none =
    none_for_stg s owner len stg_len eib None at nothing (subst (λ (t : Storage). IsTaskPlace t stg_len None) (sym (no_area (with_eib_area s owner eib) len owner)) none)

pub placed_with : (s : Storage) (owner : Owner) (len stg_len eib copy stg : ℕ) → IsTaskPlace s eib_len (Some eib) → len == 0 ≡ false → IsTaskPlace (with_eib_area s owner eib) len (Some copy)
    → IsTaskPlace (with_kept_area s owner len eib (Some copy)) stg_len (Some stg) → ArePlaced s owner len stg_len (record { eib = eib; commarea = Some copy; stg = stg })
placed_with s owner len stg_len eib copy stg at some copied placed = record { eib = at; commarea = (some, copied); stg = placed }

pub placed_without : (s : Storage) (owner : Owner) (len stg_len eib stg : ℕ) → IsTaskPlace s eib_len (Some eib) → len ≡ 0 → IsTaskPlace (with_eib_area s owner eib) stg_len (Some stg)
    → ArePlaced s owner len stg_len (record { eib = eib; commarea = None; stg = stg })
placed_without s owner len stg_len eib stg at nothing placed =
    record { eib = at; commarea = nothing; stg = subst (λ (t : Storage). IsTaskPlace t stg_len (Some stg)) (sym (no_area (with_eib_area s owner eib) len owner)) placed }

-- what the slot was given is gone when its areas are freed
drops : (slot a len : ℕ) → is_of_other_slot slot (record { start = a; len = len; owner = system_owner slot }) ≡ false
drops slot a len = rw (eq-eqb slot slot refl) refl

freed_one : (s : Storage) (slot len : ℕ) (place : Option ℕ) → with_areas_kept (is_of_other_slot slot) (with_area s place len (system_owner slot)) ≡ with_areas_kept (is_of_other_slot slot) s
freed_one s slot len None = rw (no_area s len (system_owner slot)) refl
freed_one s slot len (Some a) = freed_put (is_of_other_slot slot) s a len (system_owner slot) (drops slot a len)

pub freed_two : (s t : Storage) (slot len : ℕ) (place : Option ℕ) (owner : Owner) → owner ≡ system_owner slot → t ≡ with_area s place len owner
    → with_areas_kept (is_of_other_slot slot) t ≡ with_areas_kept (is_of_other_slot slot) s
freed_two s t slot len place owner by is = rw (is, by) (freed_one s slot len place)

-- where the slot had no area, nothing is left of what it was given
pub given_back : (s t u : Storage) (slot : ℕ) → IsSlotFree s slot → with_areas_kept (is_of_other_slot slot) t ≡ with_areas_kept (is_of_other_slot slot) s
    → u ≡ with_areas_kept (is_of_other_slot slot) t → u ≡ s
given_back s t u slot free same is = is ∙ same ∙ kept_all (is_of_other_slot slot) s free

-- with places for all, it isn't so that there are none
pub places_there : (s : Storage) (owner : Owner) (len stg_len : ℕ) (places : Places) → ArePlaced s owner len stg_len places → HasNoPlaces s owner len stg_len → ⊥
places_there s owner len stg_len places placed nowhere = nowhere.none places placed

-- ---- where areas are placed
nonzero : (n : ℕ) → n == 0 ≡ false → 0 < n
nonzero zero e = cc
nonzero (suc n) e = omega arith

pub copy_nonempty : (s : Storage) (len a : ℕ) → IsCopyPlace s len (Some a) → 0 < len
copy_nonempty s len a p = nonzero len p.0

copy_below : (s : Storage) (len : ℕ) (copy : Option ℕ) → IsCopyPlace s len copy → IfSome copy (λ a. a < 2 ^ 24)
copy_below s len None p = tt
copy_below s len (Some a) p = place_below s len a (nonzero len p.0) p.1

pub eib_below : (s : Storage) (owner : Owner) (len stg_len : ℕ) (places : Places) → ArePlaced s owner len stg_len places → places.eib < 2 ^ 24
eib_below s owner len stg_len places placed = place_below s eib_len places.eib (omega arith) placed.eib

pub places_below : (s : Storage) (owner : Owner) (len stg_len : ℕ) (places : Places) → ArePlaced s owner len stg_len places → 0 < stg_len → ArePlacesBelow places
places_below s owner len stg_len places placed some =
    record {
      eib = eib_below s owner len stg_len places placed;
      commarea = copy_below (with_eib_area s owner places.eib) len places.commarea placed.commarea;
      stg = place_below (with_kept_area s owner len places.eib places.commarea) stg_len places.stg some placed.stg;
    }

pub placed_high : (s : Storage) (len a : ℕ) → IsTaskPlace s len (Some a) → 0 < a
placed_high s len a p = omega (arith, place_from s first_of_tasks last_of_tasks len a p)

pub placed_below : (s : Storage) (len a : ℕ) → IsTaskPlace s len (Some a) → a + len < 2 ^ 32
placed_below s len a p = omega (arith, place_to s first_of_tasks last_of_tasks len a p)
