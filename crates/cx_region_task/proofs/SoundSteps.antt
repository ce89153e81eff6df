-- A task's areas, when storage changes: written, put in, freed; and when levels begin and end.
use Rattle.std.proofs.Common.{◌≡◌, ℕ, zero, suc, ◌^◌, ◌<◌, ◌≤◌, true, false, Some, None, List, [], ◌∷◌, length, map, refl, sym, ◌∙◌, ap, subst, arith, inl, inr}
use Rattle.std.specs.Prelude.{nat_eq}
use Rattle.std.specs.List.{AllByRecursion, IsDistinct}
use Rattle.std.proofs.lemmas.Bool.{cases_eq, eq-eqb, ne_eqb}
use Rattle.std.proofs.lemmas.Option.{none-some, same_Some}
use Rattle.cx_base.specs.Eib.{eib_len}
use Rattle.cx_storage.specs.declared.areas.Area.{Area}
use Rattle.cx_storage.specs.declared.areas.Owner.{Owner}
use Rattle.cx_storage.specs.Storage.{Storage, area_at, area_from, areas_of, starts_elsewhere, with_area, with_areas_kept, IsWhole, IsSoundStorage}
use Rattle.cx_storage.specs.Place.{IsLeastPlace}
use Rattle.cx_storage.specs.Address.{address_in}
use Rattle.cx_storage.specs.Facts.Areas.{area_of_areas}
use Rattle.cx_storage.specs.Facts.Sound.{sound_with_areas_kept}
use Rattle.cx_program.specs.declared.level.Level.{Level}
use Rattle.cx_region_state.specs.Areas.{IsAreaOf, IsTaskPlace, first_of_tasks, last_of_tasks, system_owner}
use Rattle.cx_region_state.specs.Facts.Areas.{area_kept_free, area_kept_get}
use Rattle.cx_region_state.specs.State.{TaskState}
use Rattle.cx_region_task.specs.Abends.{Unwound, unwound, without_stg}
use Rattle.cx_region_task.specs.Laws.HalfTurns.{others_areas}
use Rattle.cx_region_task.specs.Sound.{IsSoundLevel, IsSoundTask}
use Rattle.cx_region_task.proofs.OwnAreas.{areas_filtered, freed_own}

-- ---- what is known of a task's areas apart from the task
pub record Owns (most slot : ℕ) (s : Storage) (eib : ℕ) (callers : List Level) (current : Level) : Type 0 where
  pub eib_there : IsAreaOf s slot eib eib_len
  pub current_there : IsSoundLevel s slot current
  pub callers_there : AllByRecursion (IsSoundLevel s slot) callers
  pub few : length callers ≤ most
  pub apart : IsDistinct nat_eq (eib ∷ current.stg ∷ map (λ level. level.stg) callers)

pub owns_of : (slot : ℕ) (s : Storage) (task : TaskState) → IsSoundTask s slot task → Owns 15 slot s task.eib task.levels.callers task.levels.current
owns_of slot s task ok = record { eib_there = ok.eib; current_there = ok.current; callers_there = ok.callers; few = ok.few; apart = ok.apart }

pub of_owns : (slot : ℕ) (s : Storage) (task : TaskState) → Owns 15 slot s task.eib task.levels.callers task.levels.current → IsSoundTask s slot task
of_owns slot s task owns = record { eib = owns.eib_there; current = owns.current_there; callers = owns.callers_there; few = owns.few; apart = owns.apart }

-- ---- from one storage to another in which the slot's own areas stay
abbrev pub OwnStay : ℕ → Storage → Storage → Type 0
OwnStay slot s t = (start len : ℕ) → IsAreaOf s slot start len → IsAreaOf t slot start len

levels_stay : (slot : ℕ) (s t : Storage) (levels : List Level) → OwnStay slot s t → AllByRecursion (IsSoundLevel s slot) levels → AllByRecursion (IsSoundLevel t slot) levels
levels_stay slot s t [] stay ok = tt
levels_stay slot s t (l ∷ ls) stay ok = (record { stg = stay l.stg l.stg_len ok.0.stg; pushes = ok.0.pushes }, levels_stay slot s t ls stay ok.1)

pub owns_stay : (most slot : ℕ) (s t : Storage) (eib : ℕ) (callers : List Level) (current : Level) → OwnStay slot s t → Owns most slot s eib callers current → Owns most slot t eib callers current
owns_stay most slot s t eib callers current stay owns =
    record {
      eib_there = stay eib eib_len owns.eib_there;
      current_there = record { stg = stay current.stg current.stg_len owns.current_there.stg; pushes = owns.current_there.pushes };
      callers_there = levels_stay slot s t callers stay owns.callers_there;
      few = owns.few;
      apart = owns.apart;
    }

pub same_stay : (slot : ℕ) (s t : Storage) → areas_of t ≡ areas_of s → OwnStay slot s t
same_stay slot s t e start len there = area_of_areas t s start e ∙ there

pub put_stay : (slot : ℕ) (s : Storage) (len place : ℕ) (owner : Owner) → IsSoundStorage s → 0 < len → IsTaskPlace s len (Some place) → OwnStay slot s (with_area s (Some place) len owner)
unfolding IsLeastPlace
put_stay slot s len place owner ok some least start size there =
    area_kept_get s first_of_tasks last_of_tasks len place owner start (area_from start size (system_owner slot)) ok some least.0 there

-- ---- levels that end
start_is : (s : Storage) (x : ℕ) (area : Area) → area_at s x ≡ Some area → area.start ≡ x
unfolding area_at
start_is [] x area e = absurd (none-some area e)
start_is (h ∷ hs) x area e = elim (cases_eq h.area.start x) [
  | inl at ↦ let is : h.area ≡ area = same_Some h.area area (rw (eq-eqb h.area.start x at) at e) in sym (ap (λ (a : Area). a.start) is) ∙ at
  | inr apart ↦ start_is hs x area (rw (ne_eqb h.area.start x apart) at e)
]

start_below_in : (s : Storage) (x : ℕ) (area : Area) → AllByRecursion IsWhole s → area_at s x ≡ Some area → x < 2 ^ 24
unfolding area_at
start_below_in [] x area whole e = absurd (none-some area e)
start_below_in (h ∷ hs) x area whole e = elim (cases_eq h.area.start x) [
  | inl at ↦ omega (arith, at, whole.0.nonempty, whole.0.below)
  | inr apart ↦ start_below_in hs x area whole.1 (rw (ne_eqb h.area.start x apart) at e)
]

start_below : (s : Storage) (x : ℕ) (area : Area) → IsSoundStorage s → area_at s x ≡ Some area → x < 2 ^ 24
unfolding IsSoundStorage
start_below s x area ok e = start_below_in s x area ok.0 e

differ : (a b : ℕ) → nat_eq a b ≡ false → a ≡ b → ⊥
differ a b e is = let same : nat_eq a b ≡ true = eq-eqb a b is in cc

-- an area that starts elsewhere than the one freed stays
pub free_keeps : (s : Storage) (stg x : ℕ) (area : Area) → IsSoundStorage s → area_at s x ≡ Some area → (x ≡ stg → ⊥)
    → area_at (with_areas_kept (starts_elsewhere stg) s) x ≡ Some area
free_keeps s stg x area ok stands apart =
    let at : area.start ≡ x = start_is s x area stands in
    area_kept_free s (starts_elsewhere stg) x area ok stands (rw (at, ne_eqb x stg apart) refl)

levels_left : (s : Storage) (slot stg : ℕ) (levels : List Level) → IsSoundStorage s → AllByRecursion (λ x. nat_eq stg x ≡ false) (map (λ level. level.stg) levels)
    → AllByRecursion (IsSoundLevel s slot) levels → AllByRecursion (IsSoundLevel (with_areas_kept (starts_elsewhere stg) s) slot) levels
levels_left s slot stg [] ok apart all = tt
levels_left s slot stg (l ∷ ls) ok apart all = (
  record { stg = free_keeps s stg l.stg _ ok all.0.stg (λ e. differ stg l.stg apart.0 (sym e)); pushes = all.0.pushes },
  levels_left s slot stg ls ok apart.1 all.1,
)

own_address : (s : Storage) (slot : ℕ) (level : Level) → IsSoundStorage s → IsSoundLevel s slot level → address_in level.stg ≡ level.stg
own_address s slot level ok own = let below : level.stg < 2 ^ 24 = start_below s level.stg _ ok own.stg in omega arith

-- the current level ends: its caller is the current one
pub one_ends : (most slot : ℕ) (s : Storage) (eib : ℕ) (caller : Level) (callers : List Level) (current : Level) → IsSoundStorage s → Owns most slot s eib (caller ∷ callers) current
    → Owns most slot (without_stg current s) eib callers caller
unfolding IsDistinct
one_ends most slot s eib caller callers current ok owns =
    let apart = owns.apart in
    let here = own_address s slot current ok owns.current_there in
    let left = levels_left s slot current.stg (caller ∷ callers) ok apart.1.0 owns.callers_there in
    let few = owns.few in
    rw here (record {
      eib_there = free_keeps s current.stg eib _ ok owns.eib_there (differ eib current.stg apart.0.0);
      current_there = left.0;
      callers_there = left.1;
      few = omega arith;
      apart = (apart.0.1, apart.1.1);
    })

-- a level begins in place of the current one, whose DFHEISTG is freed
pub one_replaced : (most slot : ℕ) (s : Storage) (eib : ℕ) (callers : List Level) (current new : Level) → IsSoundStorage s → Owns (suc most) slot s eib (current ∷ callers) new
    → Owns most slot (without_stg current s) eib callers new
unfolding IsDistinct
one_replaced most slot s eib callers current new ok owns =
    let apart = owns.apart in
    let here = own_address s slot current ok owns.callers_there.0 in
    let left = levels_left s slot current.stg callers ok apart.1.1.0 owns.callers_there.1 in
    let few = owns.few in
    rw here (record {
      eib_there = free_keeps s current.stg eib _ ok owns.eib_there (differ eib current.stg apart.0.1.0);
      current_there = record { stg = free_keeps s current.stg new.stg _ ok owns.current_there.stg (differ new.stg current.stg apart.1.0.0); pushes = owns.current_there.pushes };
      callers_there = left;
      few = omega arith;
      apart = ((apart.0.0, apart.0.1.1), (apart.1.0.1, apart.1.1.1));
    })

pub stg_freed : (slot : ℕ) (s : Storage) (level : Level) → IsSoundStorage s → IsSoundLevel s slot level → others_areas slot (without_stg level s) ≡ others_areas slot s
stg_freed slot s level ok own = rw (own_address s slot level ok own) (freed_own s slot level.stg _ ok own.stg refl)

pub record Left (most slot : ℕ) (s : Storage) (eib : ℕ) (left : Unwound) : Type 0 where
  pub others : others_areas slot left.storage ≡ others_areas slot s
  pub owns : Owns most slot left.storage eib left.levels.callers left.levels.current

pub unwound_left : (most slot n : ℕ) (s : Storage) (eib : ℕ) (callers : List Level) (current : Level) → IsSoundStorage s → Owns most slot s eib callers current → Left most slot s eib (unwound n callers current s)
unfolding unwound
unwound_left most slot zero s eib callers current ok owns = record { others = refl; owns = owns }
unwound_left most slot (suc n) s eib [] current ok owns = record { others = refl; owns = owns }
unwound_left most slot (suc n) s eib (caller ∷ callers) current ok owns =
    let t = without_stg current s in
    let sound : IsSoundStorage t = sound_with_areas_kept s (starts_elsewhere (address_in current.stg)) ok in
    let rest = unwound_left most slot n t eib callers caller sound (one_ends most slot s eib caller callers current ok owns) in
    record { others = rest.others ∙ stg_freed slot s current ok owns.current_there; owns = rest.owns }

-- ---- storage whose areas are those of a sound one
pub record SameUnwound (a b : Unwound) : Type 0 where
  pub levels : a.levels ≡ b.levels
  pub areas : areas_of a.storage ≡ areas_of b.storage

pub unwound_same : (n : ℕ) (callers : List Level) (current : Level) (s t : Storage) → areas_of t ≡ areas_of s → SameUnwound (unwound n callers current t) (unwound n callers current s)
unfolding unwound
unwound_same zero callers current s t e = record { levels = refl; areas = e }
unwound_same (suc n) [] current s t e = record { levels = refl; areas = e }
unwound_same (suc n) (caller ∷ callers) current s t e =
    unwound_same n callers caller (without_stg current s) (without_stg current t) (areas_filtered (starts_elsewhere (address_in current.stg)) s t e)

-- ---- a level that begins where no area was
all_apart : (s : Storage) (slot place : ℕ) (levels : List Level) → area_at s place ≡ None → AllByRecursion (IsSoundLevel s slot) levels
    → AllByRecursion (λ x. nat_eq place x ≡ false) (map (λ level. level.stg) levels)
all_apart s slot place [] none all = tt
all_apart s slot place (l ∷ ls) none all = (
  ne_eqb place l.stg (λ e. none-some _ (sym (subst (λ (x : ℕ). area_at s x ≡ None) e none) ∙ all.0.stg)),
  all_apart s slot place ls none all.1,
)

-- the new level above the present ones
pub one_begins : (most k slot : ℕ) (s t : Storage) (eib : ℕ) (callers : List Level) (current new : Level) → area_at s new.stg ≡ None → OwnStay slot s t → IsSoundLevel t slot new → suc (length callers) ≤ k
    → Owns most slot s eib callers current → Owns k slot t eib (current ∷ callers) new
unfolding IsDistinct
one_begins most k slot s t eib callers current new none stay own few owns =
    let moved = owns_stay most slot s t eib callers current stay owns in
    let apart = owns.apart in
    record {
      eib_there = moved.eib_there;
      current_there = own;
      callers_there = (moved.current_there, moved.callers_there);
      few = few;
      apart = (
        (ne_eqb eib new.stg (λ e. none-some _ (sym (subst (λ (x : ℕ). area_at s x ≡ None) (sym e) none) ∙ owns.eib_there)), apart.0),
        (all_apart s slot new.stg (current ∷ callers) none (owns.current_there, owns.callers_there), apart.1),
      );
    }
