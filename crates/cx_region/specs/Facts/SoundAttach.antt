-- What always holds of a region is kept by a key.
use Rattle.std.proofs.Common.{◌≡◌, ℕ, zero, suc, ◌<◌, ◌≤◌, Bool, true, false, Option, Some, None, List, [], ◌∷◌, length, refl, sym, ◌∙◌, ap, subst, arith, inl, inr, is_some}
use Rattle.std.specs.Prelude.{◌==◌, ◌||◌, if◌then◌else◌, nat_eq, MatchOption, ⊤}
use Rattle.std.specs.List.{AllByRecursion, IsDistinct}
use Rattle.std.specs.Map.{set_value}
use Rattle.std.proofs.lemmas.Bool.{cases_eq, eq-eqb, ne_eqb}
use Rattle.std.proofs.lemmas.Option.{none-some, same_Some}
use Rattle.std.proofs.lemmas.Map.{length-set_value}
use Rattle.cx_storage.specs.declared.areas.Area.{Area}
use Rattle.cx_storage.specs.Storage.{Storage, area_at, area_from, with_area, IsSoundStorage}
use Rattle.cx_storage.specs.Address.{address_after}
use Rattle.cx_storage.specs.Place.{CanPlace, IsLeastPlace}
use Rattle.cx_storage.specs.Facts.Sound.{sound_with_area}
use Rattle.cx_base.specs.declared.eistg.EistgField.TheVariants.{Eicap}
use Rattle.cx_base.specs.Eistg.{eistg_field}
use Rattle.cx_base.specs.Eib.{eib_field, eib_len}
use Rattle.cx_region_state.specs.Eib.{Content, with_field, with_fields}
use Rattle.cx_region_state.specs.declared.verdict.NewLevel.{NewLevel}
use Rattle.cx_region_state.specs.Areas.{IsAreaOf, IsSoundProgram, IsTaskPlace, entry_level, first_of_tasks, last_of_tasks, system_owner, with_cap}
use Rattle.cx_region_state.specs.Facts.Areas.{all_areas_put, all_areas_written, area_kept_get, area_put, area_written, not_there}
use Rattle.cx_region_state.specs.State.{Input}
use Rattle.cx_base.specs.Facts.Tables.{distinct-set_value, each-set_value, found_meets}
use Rattle.cx_region_task.specs.Sound.{IsSoundTask}
use Rattle.cx_region.specs.declared.asking.Start.{Start}
use Rattle.cx_region.specs.State.{RegionState, TerminalState}
use Rattle.cx_ebcdic.specs.Names.{is_name}
use Rattle.cx_region.specs.Tables.{terminal_of}
use Rattle.cx_region.specs.Attach.{ArePlaced, IsCopyPlace, with_areas_filled, fresh_task, next_number, with_copy, with_eib_area, with_kept_area, with_task, with_task_areas}
use Rattle.cx_region.specs.declared.asking.Places.{Places}
use Rattle.cx_region.specs.Parts.Asking.{Giving, Starting, task_of_start}
use Rattle.cx_region.specs.Parts.Placing.{IsSlotFree}
use Rattle.cx_region.specs.Sound.{IsOwned, IsSound, IsSoundTerminal, is_live}
use Rattle.cx_region.specs.Facts.SoundDefining.{AreasStay, all_weaker, terminal_stays}
use Rattle.cx_region.specs.Facts.Live.{live-set_value, live_at, numbered-set_value, slot_free, slot_from}

-- ---- where a task is to be attached
pub start_free : (r : RegionState) (name bytes : List ℕ) (start : Start) → IsSound r → Starting r name bytes start → IsSlotFree r.shared.storage start.slot
start_free r name bytes start ok starting =
    let low = slot_from 1 r.terminals (is_name name) starting.terminal ok.numbered starting.there in
    let nobody : is_live r.terminals starting.terminal.entry.slot ≡ false = live_at 1 r.terminals (is_name name) starting.terminal ok.numbered starting.there ∙ ap is_some starting.idle in
    rw starting.slot (slot_free r.terminals r.shared.storage starting.terminal.entry.slot low nobody ok.areas)

pub start_program : (r : RegionState) (name bytes : List ℕ) (start : Start) → IsSound r → Starting r name bytes start → IsSoundProgram start.loaded
start_program r name bytes start ok starting = found_meets IsSoundProgram (is_name start.program) r.shared.programs start.loaded ok.programs_sound starting.program

-- ---- a new terminal under a name
-- with a terminal of the same slot put under its name, and storage in which what was there stays
pub sound_put : (r : RegionState) (name : List ℕ) (t u : TerminalState) (s : Storage) (counter : ℕ) → IsSound r → terminal_of r name ≡ Some t → u.entry.slot ≡ t.entry.slot → is_some u.task ≡ true
    → IsSoundStorage s → AreasStay r.shared.storage s → IsSoundTerminal s u
    → AllByRecursion (λ held. IsOwned (set_value (is_name name) r.terminals u) held.area) s → counter ≤ 9999999
    → IsSound (record r { shared = record r.shared { storage = s }; terminals = set_value (is_name name) r.terminals u; counter = counter })
sound_put r name t u s counter ok there same live sound stay own owned few =
    let size : length (set_value (is_name name) r.terminals u) ≡ length r.terminals = length-set_value (is_name name) r.terminals u in
    let all : AllByRecursion (λ e. IsSoundTerminal s e.1) r.terminals = all_weaker (λ e. IsSoundTerminal r.shared.storage e.1) (λ e. IsSoundTerminal s e.1) r.terminals (λ e. terminal_stays r.shared.storage s e.1 stay) ok.tasks in
    let most = ok.terminals_few in
    record {
      storage = sound;
      cwa_stands = stay 0x001000 _ ok.cwa_stands;
      programs_distinct = ok.programs_distinct;
      transactions_distinct = ok.transactions_distinct;
      terminals_distinct = distinct-set_value is_name (is_name name) r.terminals u ok.terminals_distinct;
      programs_few = ok.programs_few;
      transactions_few = ok.transactions_few;
      terminals_few = omega arith;
      programs_sound = ok.programs_sound;
      numbered = numbered-set_value 1 r.terminals (is_name name) t u ok.numbered there same;
      tasks = each-set_value (IsSoundTerminal s) (is_name name) r.terminals u own all;
      areas = owned;
      resources = all_weaker (λ e. is_live r.terminals e.1.owner ≡ true) (λ e. is_live (set_value (is_name name) r.terminals u) e.1.owner ≡ true) r.shared.resources (λ e was. still_live r name t u e.1.owner ok there same live was) ok.resources;
      queues_sound = ok.queues_sound;
      resources_sound = ok.resources_sound;
      time = ok.time;
      date = ok.date;
      counter = few;
    }
  where
    by_slot : (b : Bool) (x y : Bool) → x ≡ true → y ≡ true → (if b then x else y) ≡ true
    by_slot true x y e f = e
    by_slot false x y e f = f

    still_live : (r : RegionState) (name : List ℕ) (t u : TerminalState) (slot : ℕ) → IsSound r → terminal_of r name ≡ Some t → u.entry.slot ≡ t.entry.slot → is_some u.task ≡ true → is_live r.terminals slot ≡ true → is_live (set_value (is_name name) r.terminals u) slot ≡ true
    still_live r name t u slot ok there same live was =
        live-set_value 1 r.terminals (is_name name) t u slot ok.numbered there same ∙ by_slot (t.entry.slot == slot) (is_some u.task) (is_live r.terminals slot) live was

pub owned_put : (r : RegionState) (name : List ℕ) (t u : TerminalState) (area : Area) → IsSound r → terminal_of r name ≡ Some t → u.entry.slot ≡ t.entry.slot → is_some u.task ≡ true
    → IsOwned r.terminals area → IsOwned (set_value (is_name name) r.terminals u) area
owned_put r name t u area ok there same live was =
    let step = live-set_value 1 r.terminals (is_name name) t u area.owner.slot ok.numbered there same in
    go (area.owner.slot == 0) (t.entry.slot == area.owner.slot) (is_some u.task) (is_live r.terminals area.owner.slot) (is_live (set_value (is_name name) r.terminals u) area.owner.slot) step live was
  where
    go : (zero here task before after : Bool) → after ≡ (if here then task else before) → task ≡ true → zero || before ≡ true → zero || after ≡ true
    go true here task before after e live was = refl
    go false true task before after e live was = e ∙ live
    go false false task before after e live was = e ∙ was

pub owned_own : (r : RegionState) (name : List ℕ) (t u : TerminalState) (a len : ℕ) → IsSound r → terminal_of r name ≡ Some t → u.entry.slot ≡ t.entry.slot → is_some u.task ≡ true
    → IsOwned (set_value (is_name name) r.terminals u) (area_from a len (system_owner t.entry.slot))
owned_own r name t u a len ok there same live =
    let step = live-set_value 1 r.terminals (is_name name) t u t.entry.slot ok.numbered there same in
    let now : is_live (set_value (is_name name) r.terminals u) t.entry.slot ≡ true = step ∙ rw (eq-eqb t.entry.slot t.entry.slot refl) live in
    or_second (t.entry.slot == 0) (is_live (set_value (is_name name) r.terminals u) t.entry.slot) now
  where
    or_second : (a b : Bool) → b ≡ true → a || b ≡ true
    or_second true b e = refl
    or_second false b e = e

-- ---- the areas of a task that starts
area_fields : (s : Storage) (eib : ℕ) (fields : List Content) (x : ℕ) → area_at (with_fields s eib fields) x ≡ area_at s x
unfolding with_field
area_fields s eib [] x = refl
area_fields s eib (f ∷ fields) x = area_fields (with_field s eib f) eib fields x ∙ area_written s (address_after eib (eib_field f.field).offset) f.bytes x

area_copy : (s : Storage) (place : Option ℕ) (bytes : List ℕ) (x : ℕ) → area_at (with_copy s place bytes) x ≡ area_at s x
unfolding with_copy
area_copy s None bytes x = refl
area_copy s (Some a) bytes x = area_written s a bytes x

area_filled : (s : Storage) (areas : Places) (fields : List Content) (commarea : List ℕ) (level : NewLevel) (x : ℕ) → area_at (with_areas_filled s areas fields commarea level) x ≡ area_at s x
unfolding with_areas_filled with_cap
area_filled s areas fields commarea level x =
    area_written (with_copy (with_fields s areas.eib fields) areas.commarea commarea) (address_after level.stg (eistg_field Eicap).offset) _ x
    ∙ area_copy (with_fields s areas.eib fields) areas.commarea commarea x
    ∙ area_fields s areas.eib fields x

owned_fields : (P : Area → Type 0) (s : Storage) (eib : ℕ) (fields : List Content) → AllByRecursion (λ h. P h.area) s → AllByRecursion (λ h. P h.area) (with_fields s eib fields)
unfolding with_field
owned_fields P s eib [] all = all
owned_fields P s eib (f ∷ fields) all = owned_fields P (with_field s eib f) eib fields (all_areas_written P s (address_after eib (eib_field f.field).offset) f.bytes all)

owned_copy : (P : Area → Type 0) (s : Storage) (place : Option ℕ) (bytes : List ℕ) → AllByRecursion (λ h. P h.area) s → AllByRecursion (λ h. P h.area) (with_copy s place bytes)
unfolding with_copy
owned_copy P s None bytes all = all
owned_copy P s (Some a) bytes all = all_areas_written P s a bytes all

owned_filled : (P : Area → Type 0) (s : Storage) (areas : Places) (fields : List Content) (commarea : List ℕ) (level : NewLevel) → AllByRecursion (λ h. P h.area) s → AllByRecursion (λ h. P h.area) (with_areas_filled s areas fields commarea level)
unfolding with_areas_filled with_cap
owned_filled P s areas fields commarea level all =
    all_areas_written P (with_copy (with_fields s areas.eib fields) areas.commarea commarea) (address_after level.stg (eistg_field Eicap).offset) _
    (owned_copy P (with_fields s areas.eib fields) areas.commarea commarea
    (owned_fields P s areas.eib fields all))

-- one area of a task put in
record Put (s t : Storage) (slot len a : ℕ) : Type 0 where
  pub stay : AreasStay s t
  pub new : IsAreaOf t slot a len
  pub sound : IsSoundStorage t

put_one : (s : Storage) (slot len a : ℕ) → IsSoundStorage s → 0 < len → IsTaskPlace s len (Some a) → Put s (with_area s (Some a) len (system_owner slot)) slot len a
unfolding IsLeastPlace
put_one s slot len a ok some place =
    record {
      stay = λ x area stands. area_kept_get s first_of_tasks last_of_tasks len a (system_owner slot) x area ok some place.0 stands;
      new = area_put s first_of_tasks last_of_tasks len a (system_owner slot) ok some place.0;
      sound = sound_with_area s first_of_tasks last_of_tasks len (Some a) (system_owner slot) ok (omega arith) some place;
    }

record CopyPut (s t : Storage) : Type 0 where
  pub stay : AreasStay s t
  pub sound : IsSoundStorage t

put_copy : (s : Storage) (slot len : ℕ) (place : Option ℕ) → IsSoundStorage s → IsCopyPlace s len place → CopyPut s (with_area s place len (system_owner slot))
unfolding with_area
put_copy s slot len None ok none = record { stay = λ x area stands. stands; sound = ok }
put_copy s slot len (Some a) ok at =
    let put = put_one s slot len a ok (nonzero len at.0) at.1 in
    record { stay = put.stay; sound = put.sound }
  where
    nonzero : (n : ℕ) → n == 0 ≡ false → 0 < n
    nonzero zero e = cc
    nonzero (suc n) e = omega arith

-- a new area starts where none did
stg_new : (s : Storage) (len a b : ℕ) → IsSoundStorage s → 0 < len → IsTaskPlace s len (Some b) → a ≡ b → (area : Area) → area_at s a ≡ Some area → ⊥
unfolding IsLeastPlace CanPlace IsSoundStorage
stg_new s len a b ok some place e area stands =
    none-some area (sym (subst (λ x. area_at s x ≡ None) (sym e) (not_there s len b some ok.0 place.0.3)) ∙ stands)

two_apart : (a b : ℕ) → (a ≡ b → ⊥) → IsDistinct nat_eq (a ∷ b ∷ [])
unfolding IsDistinct
two_apart a b ne = ((ne_eqb a b ne, tt), (tt, tt))

owned_areas : (P : Area → Type 0) (s : Storage) (slot len stg_len : ℕ) (places : Places) → ((a n : ℕ) → P (area_from a n (system_owner slot))) → AllByRecursion (λ h. P h.area) s
    → AllByRecursion (λ h. P h.area) (with_task_areas s (system_owner slot) len stg_len places)
unfolding with_area
owned_areas P s slot len stg_len places new all =
    all_areas_put P (with_kept_area s (system_owner slot) len places.eib places.commarea) places.stg stg_len (system_owner slot) (new places.stg stg_len)
    (copied places.commarea)
  where
    first : AllByRecursion (λ h. P h.area) (with_eib_area s (system_owner slot) places.eib)
    first = all_areas_put P s places.eib eib_len (system_owner slot) (new places.eib eib_len) all

    copied : (o : Option ℕ) → AllByRecursion (λ h. P h.area) (with_area (with_eib_area s (system_owner slot) places.eib) o len (system_owner slot))
    copied None = first
    copied (Some a) = all_areas_put P (with_eib_area s (system_owner slot) places.eib) a len (system_owner slot) (new a len) first

-- ---- attach
pub sound_attached : (r : RegionState) (name bytes : List ℕ) (start : Start) (input : Input) (places : Places) (fields : List Content) (commarea : List ℕ) (level : NewLevel) (s : Storage) (ts : List (List ℕ × TerminalState))
    → IsSound r → (starting : Starting r name bytes start) → IsSoundStorage s
    → ArePlaced r.shared.storage (system_owner start.slot) start.calen start.loaded.stg_len places
    → s ≡ with_areas_filled (with_task_areas r.shared.storage (system_owner start.slot) start.calen start.loaded.stg_len places) places fields commarea level
    → ts ≡ set_value (is_name name) r.terminals (with_task starting.terminal input (task_of_start start (next_number r.counter) places))
    → IsSound (record r { shared = record r.shared { storage = s }; terminals = ts; counter = next_number r.counter })
unfolding fresh_task entry_level
sound_attached r name bytes start input places fields commarea level s ts ok starting sound placed is is_ts =
    let good = start_program r name bytes start ok starting in
    let slot = start.slot in
    let t = starting.terminal in
    let task = task_of_start start (next_number r.counter) places in
    let u : TerminalState = with_task t input task in
    let low = good.stg_low in
    let one = put_one r.shared.storage slot eib_len places.eib ok.storage (omega arith) placed.eib in
    let two = put_copy (with_eib_area r.shared.storage (system_owner slot) places.eib) slot start.calen places.commarea one.sound placed.commarea in
    let three = put_one (with_kept_area r.shared.storage (system_owner slot) start.calen places.eib places.commarea) slot start.loaded.stg_len places.stg two.sound (omega arith) placed.stg in
    let last : (x : ℕ) (area : Area) → area_at (with_task_areas r.shared.storage (system_owner slot) start.calen start.loaded.stg_len places) x ≡ Some area → area_at s x ≡ Some area =
    λ x area stands. ap (λ v. area_at v x) is ∙ area_filled (with_task_areas r.shared.storage (system_owner slot) start.calen start.loaded.stg_len places) places fields commarea level x ∙ stands in
    let stay : AreasStay r.shared.storage s = λ x area stands. last x area (three.stay x area (two.stay x area (one.stay x area stands))) in
    let eib_there : IsAreaOf s slot places.eib eib_len = last places.eib _ (three.stay places.eib _ (two.stay places.eib _ one.new)) in
    let stg_there : IsAreaOf s slot places.stg start.loaded.stg_len = last places.stg _ three.new in
    let eib_apart : places.eib ≡ places.stg → ⊥ = λ e. stg_new (with_kept_area r.shared.storage (system_owner slot) start.calen places.eib places.commarea) start.loaded.stg_len places.eib places.stg two.sound (omega arith) placed.stg e _ (two.stay places.eib _ one.new) in
    let own : IsSoundTask s slot task =
    record { eib = eib_there; current = record { stg = stg_there; pushes = omega arith }; callers = tt; few = omega arith; apart = two_apart places.eib places.stg eib_apart } in
    let owned : AllByRecursion (λ held. IsOwned (set_value (is_name name) r.terminals u) held.area) s =
    rw is (owned_filled (IsOwned (set_value (is_name name) r.terminals u)) (with_task_areas r.shared.storage (system_owner slot) start.calen start.loaded.stg_len places) places fields commarea level
    (owned_areas (IsOwned (set_value (is_name name) r.terminals u)) r.shared.storage slot start.calen start.loaded.stg_len places
    (λ a n. subst (λ (k : ℕ). IsOwned (set_value (is_name name) r.terminals u) (area_from a n (system_owner k))) (sym starting.slot) (owned_own r name t u a n ok starting.there refl refl))
    (all_weaker (λ held. IsOwned r.terminals held.area) (λ held. IsOwned (set_value (is_name name) r.terminals u) held.area) r.shared.storage (λ held. owned_put r name t u held.area ok starting.there refl refl) ok.areas))) in
    let number : next_number r.counter ≤ 9999999 = number_few r.counter ok.counter in
    rw is_ts (sound_put r name t u s (next_number r.counter) ok starting.there refl refl sound stay (subst (λ (k : ℕ). IsSoundTask s k task) starting.slot own) owned number)
  where
    number_few : (n : ℕ) → n ≤ 9999999 → next_number n ≤ 9999999
    number_few n most = elim (cases_eq n 9999999) [
      | inl e ↦ rw (eq-eqb n 9999999 e) (omega arith)
      | inr ne ↦ rw (ne_eqb n 9999999 ne) (omega arith)
    ]

-- ---- an input held
pub sound_given : (r : RegionState) (name : List ℕ) (input : Input) (ts : List (List ℕ × TerminalState)) → IsSound r → (giving : Giving r name)
    → ts ≡ set_value (is_name name) r.terminals (record giving.terminal { entry = record giving.terminal.entry { input = Some input } }) → IsSound (record r { terminals = ts })
sound_given r name input ts ok giving is =
    let t = giving.terminal in
    let u : TerminalState = record t { entry = record t.entry { input = Some input } } in
    let live : is_some u.task ≡ true = ap is_some giving.live in
    let own : IsSoundTerminal r.shared.storage t = found_meets (IsSoundTerminal r.shared.storage) (is_name name) r.terminals t ok.tasks giving.there in
    let owned : AllByRecursion (λ h. IsOwned (set_value (is_name name) r.terminals u) h.area) r.shared.storage =
    all_weaker (λ h. IsOwned r.terminals h.area) (λ h. IsOwned (set_value (is_name name) r.terminals u) h.area) r.shared.storage (λ h. owned_put r name t u h.area ok giving.there refl live) ok.areas in
    rw is (sound_put r name t u r.shared.storage r.counter ok giving.there refl live ok.storage (λ x area stands. stands) own owned ok.counter)

-- ---- what is known of the terminal that is found
pub of_found : {T : Type 0} (P : T → Type 0) (o : Option T) (t : T) → o ≡ Some t → MatchOption o ⊤ P → P t
of_found P None t e h = absurd (none-some t e)
of_found P (Some u) t e h = subst P (same_Some u t e) h

pub of_some : {T : Type 0} (A : Type 0) (P : T → Type 0) (o : Option T) (t : T) → o ≡ Some t → P t → MatchOption o A P
of_some A P None t e h = absurd (none-some t e)
of_some A P (Some u) t e h = subst P (sym (same_Some u t e)) h

pub of_none : {T : Type 0} (A : Type 0) (P : T → Type 0) (o : Option T) → o ≡ None → A → MatchOption o A P
of_none A P None e h = h
of_none A P (Some u) e h = absurd (none-some u (sym e))
