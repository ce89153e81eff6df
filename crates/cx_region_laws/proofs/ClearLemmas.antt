-- Where others have no area: at the slot's own areas, and where a fresh one is placed.
use Rattle.std.proofs.Common.{◌≡◌, ℕ, ◌+◌, ◌^◌, ◌<◌, ◌≤◌, true, false, Some, List, [], ◌∷◌, refl, sym, ◌∙◌, ap, arith, inl, inr}
use Rattle.std.specs.List.{AllByRecursion}
use Rattle.std.proofs.lemmas.Bool.{cases_Bool, cases_eq, eq-eqb, ne_eqb, true≢false}
use Rattle.std.proofs.lemmas.Option.{none-some, same_Some}
use Rattle.cx_base.specs.Eib.{eib_len}
use Rattle.cx_storage.specs.declared.areas.Area.{Area}
use Rattle.cx_storage.specs.Address.{address_in}
use Rattle.cx_storage.specs.Place.{CanPlace, IsLeastPlace, Misses}
use Rattle.cx_storage.specs.Storage.{Held, Storage, area_at, area_from, areas_of, covers, end_of, is_of_other_slot, with_areas_kept, AreOrdered, IsWhole, IsSoundStorage}
use Rattle.cx_storage.specs.Facts.Areas.{area_bounds}
use Rattle.cx_storage.specs.Facts.Sound.{All-filter, covers_cases, covers_from}
use Rattle.cx_program.specs.declared.level.Level.{Level}
use Rattle.cx_region_state.specs.Areas.{IsAreaOf, IsTaskPlace, system_owner}
use Rattle.cx_region_state.specs.State.{TaskState}
use Rattle.cx_region_task.specs.Sound.{IsSoundLevel, IsSoundTask}
use Rattle.cx_region_laws.specs.Laws.Bytes.{others_storage}
use Rattle.cx_region_laws.proofs.OthersLemmas.{Elsewhere, Uncovered, elsewhere_same, uncovered_same}

-- ---- an area that is there
pub off_below : (area : Area) (x : ℕ) → x < area.start → covers area x ≡ false
off_below area x below = elim (covers_cases area x) [
  | inl c ↦ absurd (omega (arith, c.1, below))
  | inr c ↦ c.0
]

pub off_above : (area : Area) (x : ℕ) → end_of area ≤ x → covers area x ≡ false
off_above area x above = elim (covers_cases area x) [
  | inl c ↦ absurd (omega (arith, c.2, above))
  | inr c ↦ c.0
]

later_uncovered : (hs : Storage) (e x : ℕ) → x < e → AllByRecursion (λ later. e ≤ later.area.start) hs → Uncovered hs x
later_uncovered [] e x below all = tt
later_uncovered (h ∷ hs) e x below all = (off_below h.area x (omega (arith, below, all.0)), later_uncovered hs e x below all.1)

pub later_start : (hs : Storage) (e p : ℕ) (mine : Area) → AllByRecursion (λ later. e ≤ later.area.start) hs → area_at hs p ≡ Some mine → e ≤ p
unfolding area_at
later_start [] e p mine all found = absurd (none-some mine found)
later_start (h ∷ hs) e p mine all found = elim (cases_eq h.area.start p) [
  | inl at ↦ omega (arith, at, all.0)
  | inr apart ↦ later_start hs e p mine all.1 (rw (ne_eqb h.area.start p apart) at found)
]

-- no other's area has an address of an own one
own_uncovered_in : (s : Storage) (slot p x : ℕ) (mine : Area) → AllByRecursion IsWhole s → AreOrdered s → area_at s p ≡ Some mine → mine.owner.slot ≡ slot
    → p ≤ x → x < p + mine.len → Uncovered (others_storage slot s) x
unfolding area_at with_areas_kept
own_uncovered_in [] slot p x mine whole ordered found own low high = absurd (none-some mine found)
own_uncovered_in (h ∷ hs) slot p x mine whole ordered found own low high = elim (cases_eq h.area.start p) [
  | inl at ↦
      let is : h.area ≡ mine = same_Some h.area mine (rw (eq-eqb h.area.start p at) at found) in
      let owner : h.area.owner.slot ≡ slot = ap (λ (a : Area). a.owner.slot) is ∙ own in
      let long : h.area.len ≡ mine.len = ap (λ (a : Area). a.len) is in
      let not_other : is_of_other_slot slot h.area ≡ false = rw (eq-eqb h.area.owner.slot slot owner) refl in
      let below : x < end_of h.area = omega (arith, at, long, high) in
      rw not_other (All-filter (λ g. covers g.area x ≡ false) (λ g. is_of_other_slot slot g.area) hs (later_uncovered hs (end_of h.area) x below ordered.0))
  | inr apart ↦
      let rest_found = rw (ne_eqb h.area.start p apart) at found in
      let before = later_start hs (end_of h.area) p mine ordered.0 rest_found in
      let rest = own_uncovered_in hs slot p x mine whole.1 ordered.1 rest_found own low high in
      elim (cases_Bool (is_of_other_slot slot h.area)) [
        | inl k ↦ rw k (off_above h.area x (omega (arith, before, low)), rest)
        | inr k ↦ rw k rest
      ]
]

pub own_uncovered : (s : Storage) (slot p x : ℕ) (mine : Area) → IsSoundStorage s → area_at s p ≡ Some mine → mine.owner.slot ≡ slot → p ≤ x → x < p + mine.len → Uncovered (others_storage slot s) x
unfolding IsSoundStorage
own_uncovered s slot p x mine ok found own low high = own_uncovered_in s slot p x mine ok.0 ok.1 found own low high

-- where no area has the address, none starts there
none_starts : (s : Storage) (p : ℕ) → AllByRecursion IsWhole s → Uncovered s p → Elsewhere s p
none_starts [] p whole clear = tt
none_starts (h ∷ hs) p whole clear = (
  elim (cases_eq h.area.start p) [
    | inl at ↦
        let some = whole.0.nonempty in
        let has : covers h.area p ≡ true = covers_from h.area p (omega (arith, at)) (omega (arith, at, some)) in
        absurd (true≢false (sym has ∙ clear.0))
    | inr apart ↦ rw (ne_eqb h.area.start p apart) refl
  ],
  none_starts hs p whole.1 clear.1,
)

-- no other's area starts where an own one does
pub own_elsewhere : (s : Storage) (slot p : ℕ) (mine : Area) → IsSoundStorage s → area_at s p ≡ Some mine → mine.owner.slot ≡ slot → Elsewhere (others_storage slot s) p
unfolding IsSoundStorage with_areas_kept
own_elsewhere s slot p mine ok found own =
    let bounds = area_bounds s p mine ok found in
    let some = bounds.1 in
    none_starts (others_storage slot s) p (All-filter IsWhole (λ h. is_of_other_slot slot h.area) s ok.0) (own_uncovered s slot p p mine ok found own (omega arith) (omega (arith, some)))

-- ---- a fresh area
missed : (len b : ℕ) (h : Held) (x : ℕ) → Misses len b h → b ≤ x → x < b + len → covers h.area x ≡ false
missed len b h x (inl over) low high = off_above h.area x (omega (arith, over, low))
missed len b h x (inr before) low high = off_below h.area x (omega (arith, before, high))

pub all_missed : (s : Storage) (len b x : ℕ) → AllByRecursion (Misses len b) s → b ≤ x → x < b + len → Uncovered s x
all_missed [] len b x all low high = tt
all_missed (h ∷ hs) len b x all low high = (missed len b h x all.0 low high, all_missed hs len b x all.1 low high)

-- the addresses of a fresh area: below 2^24, and no other's
pub placed_uncovered : (s : Storage) (slot len place x : ℕ) → IsTaskPlace s len (Some place) → place ≤ x → x < place + len → Uncovered (others_storage slot s) x
unfolding IsLeastPlace CanPlace with_areas_kept
placed_uncovered s slot len place x least low high =
    All-filter (λ h. covers h.area x ≡ false) (λ h. is_of_other_slot slot h.area) s (all_missed s len place x least.0.3 low high)

pub placed_ends : (s : Storage) (len place : ℕ) → IsTaskPlace s len (Some place) → place + len ≤ 2 ^ 24
unfolding IsLeastPlace CanPlace
placed_ends s len place least = let ends : place + len ≤ 0xFFFFFF + 1 = least.0.2 in omega (arith, ends)

-- ---- a task's own areas
-- none of others' areas, in a storage, has an address of the task's EIB, or starts where one of its DFHEISTGs does
pub record Clear (others : Storage) (eib : ℕ) (callers : List Level) (stg : ℕ) : Type 0 where
  pub low : eib + eib_len ≤ 2 ^ 24
  pub eib_clear : (x : ℕ) → eib ≤ x → x < eib + eib_len → Uncovered others x
  pub stg_clear : Elsewhere others (address_in stg)
  pub callers_clear : AllByRecursion (λ (level : Level). Elsewhere others (address_in level.stg)) callers

start_clear : (s : Storage) (slot start len : ℕ) → IsSoundStorage s → IsAreaOf s slot start len → Elsewhere (others_storage slot s) (address_in start)
start_clear s slot start len ok there =
    let bounds = area_bounds s start (area_from start len (system_owner slot)) ok there in
    let some = bounds.1 in
    let ends = bounds.2 in
    let here : address_in start ≡ start = omega (arith, some, ends) in
    rw here (own_elsewhere s slot start (area_from start len (system_owner slot)) ok there refl)

callers_clear_of : (s : Storage) (slot : ℕ) (callers : List Level) → IsSoundStorage s → AllByRecursion (IsSoundLevel s slot) callers
    → AllByRecursion (λ (level : Level). Elsewhere (others_storage slot s) (address_in level.stg)) callers
callers_clear_of s slot [] ok all = tt
callers_clear_of s slot (l ∷ ls) ok all = (start_clear s slot l.stg l.stg_len ok all.0.stg, callers_clear_of s slot ls ok all.1)

pub clear_of : (s : Storage) (slot : ℕ) (task : TaskState) → IsSoundStorage s → IsSoundTask s slot task → Clear (others_storage slot s) task.eib task.levels.callers task.levels.current.stg
clear_of s slot task ok own =
    let bounds = area_bounds s task.eib (area_from task.eib eib_len (system_owner slot)) ok own.eib in
    let ends = bounds.2 in
    record {
      low = ends;
      eib_clear = λ x low high. own_uncovered s slot task.eib x (area_from task.eib eib_len (system_owner slot)) ok own.eib refl low high;
      stg_clear = start_clear s slot task.levels.current.stg task.levels.current.stg_len ok own.current.stg;
      callers_clear = callers_clear_of s slot task.levels.callers ok own.callers;
    }

callers_clear_same : (s t : Storage) (callers : List Level) → areas_of t ≡ areas_of s → AllByRecursion (λ (level : Level). Elsewhere s (address_in level.stg)) callers
    → AllByRecursion (λ (level : Level). Elsewhere t (address_in level.stg)) callers
callers_clear_same s t [] e all = tt
callers_clear_same s t (l ∷ ls) e all = (elsewhere_same s t (address_in l.stg) e all.0, callers_clear_same s t ls e all.1)

pub clear_same : (s t : Storage) (eib : ℕ) (callers : List Level) (stg : ℕ) → areas_of t ≡ areas_of s → Clear s eib callers stg → Clear t eib callers stg
clear_same s t eib callers stg e clear =
    record {
      low = clear.low;
      eib_clear = λ x low high. uncovered_same s t x e (clear.eib_clear x low high);
      stg_clear = elsewhere_same s t (address_in stg) e clear.stg_clear;
      callers_clear = callers_clear_same s t callers e clear.callers_clear;
    }
