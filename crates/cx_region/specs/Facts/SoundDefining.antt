-- What always holds of a region is kept by definitions.
use Rattle.std.proofs.Common.{◌≡◌, ℕ, suc, ◌+◌, ◌<◌, Bool, true, false, cond, Option, Some, None, List, [], ◌∷◌, ◌++◌, length, refl, sym, ◌∙◌, ap, subst, arith, is_some}
use Rattle.std.specs.Prelude.{◌==◌, ◌&&◌, ◌||◌, ⊤, MatchOption}
use Rattle.std.specs.List.{AllByRecursion, IsDistinct}
use Rattle.std.specs.Map.{keys_of}
use Rattle.std.proofs.lemmas.Bool.{leb-false}
use Rattle.std.proofs.lemmas.Option.{none-some}
use Rattle.std.proofs.lemmas.List.{length_push}
use Rattle.indexmap.specs.IndexMap.{insert_entry}
use Rattle.cx_storage.specs.Storage.{Storage}
use Rattle.cx_service.specs.Queues.{Queues, AreSoundQueues}
use Rattle.cx_service.specs.Resources.{Resources, AreSoundResources}
use Rattle.cx_load.specs.declared.program.Loaded.{Loaded}
use Rattle.cx_storage.specs.Storage.{IsSoundStorage, area_at}
use Rattle.cx_storage.specs.declared.areas.Area.{Area}
use Rattle.cx_storage.specs.Storage.{with_area}
use Rattle.cx_storage.specs.Place.{CanPlace, IsLeastPlace}
use Rattle.cx_code.specs.declared.image.Image.{Image}
use Rattle.cx_load.specs.Fault.{IsFit}
use Rattle.cx_load.specs.Facts.Faults.{facts_of_fit}
use Rattle.cx_load.specs.Program.{IsLoaded, program_owner, text_at}
use Rattle.cx_program.specs.declared.level.Level.{Level}
use Rattle.cx_region.specs.State.{TerminalState, RegionState}
use Rattle.cx_region_state.specs.State.{TaskState}
use Rattle.cx_ebcdic.specs.Names.{is_name}
use Rattle.cx_region.specs.Tables.{fresh_terminal}
use Rattle.cx_region.specs.Defining.{fresh_region, program_fault, terminal_fault, transaction_fault}
use Rattle.cx_region_state.specs.Areas.{IsSoundProgram}
use Rattle.cx_region_task.specs.Sound.{IsSoundLevel, IsSoundTask}
use Rattle.cx_region.specs.Sound.{AreNumbered, IsOwned, IsSound, IsSoundTerminal, is_live}
use Rattle.cx_region_state.specs.Facts.Areas.{area_kept_get, area_written, all_areas_put, all_areas_written}
use Rattle.cx_base.specs.Facts.Tables.{insert_entry_absent, each-insert_entry}

-- a refusal that isn't the first one doesn't apply
pub no_fault : {F : Type 0} (b : Bool) (fault : F) (others : Option F) → cond b (Some fault) others ≡ None → (b ≡ false) × (others ≡ None)
no_fault true fault others e = absurd (none-some fault (sym e))
no_fault false fault others e = (refl, e)

pub not_some : {X : Type 0} (o : Option X) → is_some o ≡ false → o ≡ None
not_some None e = refl
not_some (Some x) e = cc

pub all_weaker : {X : Type 0} (P Q : X → Type 0) (xs : List X) → ((x : X) → P x → Q x) → AllByRecursion P xs → AllByRecursion Q xs
all_weaker P Q [] each all = tt
all_weaker P Q (x ∷ xs) each all = (each x all.0, all_weaker P Q xs each all.1)

-- ---- one more terminal
numbered_push : (from : ℕ) (ts : List (List ℕ × TerminalState)) (name : List ℕ) (t : TerminalState) → AreNumbered from ts → t.entry.slot ≡ from + length ts → AreNumbered from (ts ++ (name, t) ∷ [])
numbered_push from [] name t all is = (omega (arith, is), tt)
numbered_push from (e ∷ ts) name t all is = (all.0, numbered_push (suc from) ts name t all.1 (omega (arith, is)))

or_left : (a b c : Bool) → a || b ≡ true → (b ≡ true → c ≡ true) → a || c ≡ true
or_left true b c e f = refl
or_left false b c e f = f e

live_push : (ts : List (List ℕ × TerminalState)) (e : List ℕ × TerminalState) (slot : ℕ) → is_live ts slot ≡ true → is_live (ts ++ e ∷ []) slot ≡ true
live_push [] e slot live = cc
live_push (t ∷ ts) e slot live = or_left ((t.1.entry.slot == slot) && is_some t.1.task) (is_live ts slot) (is_live (ts ++ e ∷ []) slot) live (live_push ts e slot)

pub terminal_room : (r : RegionState) (name : List ℕ) → IsSound r → terminal_fault r name ≡ None → length r.terminals < 16
unfolding terminal_fault
terminal_room r name ok free = leb-false _ _ (no_fault _ _ _ (no_fault _ _ _ free).1).0

pub sound_terminal : (r : RegionState) (name : List ℕ) (ts : List (List ℕ × TerminalState)) → IsSound r → terminal_fault r name ≡ None
    → ts ≡ insert_entry is_name r.terminals name (fresh_terminal (length r.terminals + 1)) → IsDistinct is_name (keys_of ts) → IsSound (record r { terminals = ts })
unfolding terminal_fault
sound_terminal r name ts ok free is distinct =
    let first = no_fault _ _ _ free in
    let room : length r.terminals < 16 = terminal_room r name ok free in
    let fresh : TerminalState = fresh_terminal (length r.terminals + 1) in
    let put : ts ≡ r.terminals ++ (name, fresh) ∷ [] = is ∙ insert_entry_absent is_name r.terminals name fresh (not_some _ first.0) in
    let longer : length ts ≡ length r.terminals + 1 = ap length put ∙ length_push r.terminals (name, fresh) in
    record {
      storage = ok.storage;
      cwa_stands = ok.cwa_stands;
      programs_distinct = ok.programs_distinct;
      transactions_distinct = ok.transactions_distinct;
      terminals_distinct = distinct;
      programs_few = ok.programs_few;
      transactions_few = ok.transactions_few;
      terminals_few = omega arith;
      programs_sound = ok.programs_sound;
      numbered = rw put (numbered_push 1 r.terminals name fresh ok.numbered (omega arith));
      tasks = rw is (each-insert_entry (IsSoundTerminal r.shared.storage) is_name r.terminals name fresh tt ok.tasks);
      areas = rw put (all_weaker (λ held. IsOwned r.terminals held.area) (λ held. IsOwned (r.terminals ++ (name, fresh) ∷ []) held.area) r.shared.storage
          (λ held owned. or_left (held.area.owner.slot == 0) (is_live r.terminals held.area.owner.slot) (is_live (r.terminals ++ (name, fresh) ∷ []) held.area.owner.slot) owned (live_push r.terminals (name, fresh) held.area.owner.slot)) ok.areas);
      resources = rw put (all_weaker (λ e. is_live r.terminals e.1.owner ≡ true) (λ e. is_live (r.terminals ++ (name, fresh) ∷ []) e.1.owner ≡ true) r.shared.resources
          (λ e live. live_push r.terminals (name, fresh) e.1.owner live) ok.resources);
      queues_sound = ok.queues_sound;
      resources_sound = ok.resources_sound;
      time = ok.time;
      date = ok.date;
      counter = ok.counter;
    }

-- ---- a region as it begins
sound_begun : IsSoundStorage fresh_region.shared.storage → AreSoundQueues [] → AreSoundResources [] → IsSound fresh_region
unfolding IsDistinct area_at
sound_begun storage queues resources =
    record {
      storage = storage;
      cwa_stands = refl;
      programs_distinct = tt;
      transactions_distinct = tt;
      terminals_distinct = tt;
      programs_few = omega arith;
      transactions_few = omega arith;
      terminals_few = omega arith;
      programs_sound = tt;
      numbered = tt;
      tasks = tt;
      areas = (refl, tt);
      resources = tt;
      queues_sound = queues;
      resources_sound = resources;
      time = omega arith;
      date = omega arith;
      counter = omega arith;
    }

pub sound_fresh : (storage : Storage) (programs : List (List ℕ × Loaded)) (transactions : List (List ℕ × List ℕ)) (terminals : List (List ℕ × TerminalState)) (queues : Queues) (resources : Resources)
    → IsSoundStorage storage → AreSoundQueues queues → AreSoundResources resources
    → storage ≡ fresh_region.shared.storage → programs ≡ [] → transactions ≡ [] → terminals ≡ [] → queues ≡ [] → resources ≡ []
    → IsSound (record { shared = record { storage = storage; programs = programs; queues = queues; resources = resources }; time = 0; date = 0; transactions = transactions; terminals = terminals; counter = 0 })
sound_fresh storage programs transactions terminals queues resources sound queues_ok resources_ok s p t m q e =
    let storage_ok : IsSoundStorage fresh_region.shared.storage = subst IsSoundStorage s sound in
    let no_queues : AreSoundQueues [] = subst AreSoundQueues q queues_ok in
    let no_resources : AreSoundResources [] = subst AreSoundResources e resources_ok in
    rw (s, p, t, m, q, e) (sound_begun storage_ok no_queues no_resources)

-- ---- one more transaction
pub sound_transaction : (r : RegionState) (tran program : List ℕ) (ts : List (List ℕ × List ℕ)) → IsSound r → transaction_fault r tran program ≡ None
    → ts ≡ insert_entry is_name r.transactions tran program → IsDistinct is_name (keys_of ts) → IsSound (record r { transactions = ts })
unfolding transaction_fault
sound_transaction r tran program ts ok free is distinct =
    let first = no_fault _ _ _ free in
    let room : length r.transactions < 64 = leb-false _ _ (no_fault _ _ _ first.1).0 in
    let longer : length ts ≡ length r.transactions + 1 =
    ap length (is ∙ insert_entry_absent is_name r.transactions tran program (not_some _ first.0)) ∙ length_push r.transactions (tran, program) in
    record {
      storage = ok.storage;
      cwa_stands = ok.cwa_stands;
      programs_distinct = ok.programs_distinct;
      transactions_distinct = distinct;
      terminals_distinct = ok.terminals_distinct;
      programs_few = ok.programs_few;
      transactions_few = omega arith;
      terminals_few = ok.terminals_few;
      programs_sound = ok.programs_sound;
      numbered = ok.numbered;
      tasks = ok.tasks;
      areas = ok.areas;
      resources = ok.resources;
      queues_sound = ok.queues_sound;
      resources_sound = ok.resources_sound;
      time = ok.time;
      date = ok.date;
      counter = ok.counter;
    }

-- ---- one more program
-- areas that are there stay
abbrev pub AreasStay : Storage → Storage → Type 0
AreasStay s t = (x : ℕ) (area : Area) → area_at s x ≡ Some area → area_at t x ≡ Some area

level_stays : (s t : Storage) (slot : ℕ) → AreasStay s t → (level : Level) → IsSoundLevel s slot level → IsSoundLevel t slot level
level_stays s t slot stay level ok = record { stg = stay level.stg _ ok.stg; pushes = ok.pushes }

pub task_stays : (s t : Storage) (slot : ℕ) (task : TaskState) → AreasStay s t → IsSoundTask s slot task → IsSoundTask t slot task
task_stays s t slot task stay ok =
    record {
      eib = stay task.eib _ ok.eib;
      current = level_stays s t slot stay task.levels.current ok.current;
      callers = all_weaker (IsSoundLevel s slot) (IsSoundLevel t slot) task.levels.callers (level_stays s t slot stay) ok.callers;
      few = ok.few;
      apart = ok.apart;
    }

pub terminal_stays : (s t : Storage) (terminal : TerminalState) → AreasStay s t → IsSoundTerminal s terminal → IsSoundTerminal t terminal
terminal_stays s t terminal stay ok = by_task terminal.task ok
  where
    by_task : (o : Option TaskState) → MatchOption o ⊤ (λ task. IsSoundTask s terminal.entry.slot task) → MatchOption o ⊤ (λ task. IsSoundTask t terminal.entry.slot task)
    by_task None ok = tt
    by_task (Some task) ok = task_stays s t terminal.entry.slot task stay ok

loaded_stay : (s t : Storage) (image : Image) (loaded : Loaded) → IsSoundStorage s → 0 < length image.text → IsLoaded s image loaded t → AreasStay s t
unfolding IsLeastPlace
loaded_stay s t image loaded ok some is x area stands =
    let put = area_kept_get s 0x010000 0x1FFFFF (length image.text) loaded.at program_owner x area ok some is.place.0 stands in
    rw is.storage_after (area_written (with_area s (Some loaded.at) (length image.text) program_owner) loaded.at (text_at loaded.at image) x ∙ put)

pub program_room : (r : RegionState) (name : List ℕ) → program_fault r name ≡ None → length r.shared.programs < 64
unfolding program_fault
program_room r name free = leb-false _ _ (no_fault _ _ _ (no_fault _ _ _ free).1).0

-- a program that was loaded from a fit image is sound
pub sound_loaded : (s t : Storage) (image : Image) (loaded : Loaded) → IsFit image → IsLoaded s image loaded t → IsSoundProgram loaded
unfolding IsLeastPlace CanPlace
sound_loaded s t image loaded fit is =
    let len = is.stg_len in
    let entry = is.entry in
    let place = is.place.0.2 in
    let facts = facts_of_fit image fit in
    let inside = facts.entry in
    let low = facts.stg_low in
    let high = facts.stg_high in
    record { stg_low = omega arith; stg_high = omega arith; entry = omega arith }

pub sound_program : (r : RegionState) (name : List ℕ) (image : Image) (loaded : Loaded) (t : Storage) (ps : List (List ℕ × Loaded)) → IsSound r → IsSoundStorage t
    → 0 < length image.text → IsSoundProgram loaded → program_fault r name ≡ None → IsLoaded r.shared.storage image loaded t
    → ps ≡ insert_entry is_name r.shared.programs name loaded → IsDistinct is_name (keys_of ps) → IsSound (record r { shared = record r.shared { programs = ps; storage = t } })
unfolding program_fault
sound_program r name image loaded t ps ok sound some good free is_loaded is distinct =
    let first = no_fault _ _ _ free in
    let room : length r.shared.programs < 64 = program_room r name free in
    let longer : length ps ≡ length r.shared.programs + 1 =
    ap length (is ∙ insert_entry_absent is_name r.shared.programs name loaded (not_some _ first.0)) ∙ length_push r.shared.programs (name, loaded) in
    let stay : AreasStay r.shared.storage t = loaded_stay r.shared.storage t image loaded ok.storage some is_loaded in
    record {
      storage = sound;
      cwa_stands = stay 0x001000 _ ok.cwa_stands;
      programs_distinct = distinct;
      transactions_distinct = ok.transactions_distinct;
      terminals_distinct = ok.terminals_distinct;
      programs_few = omega arith;
      transactions_few = ok.transactions_few;
      terminals_few = ok.terminals_few;
      programs_sound = rw is (each-insert_entry IsSoundProgram is_name r.shared.programs name loaded good ok.programs_sound);
      numbered = ok.numbered;
      tasks = all_weaker (λ e. IsSoundTerminal r.shared.storage e.1) (λ e. IsSoundTerminal t e.1) r.terminals (λ e. terminal_stays r.shared.storage t e.1 stay) ok.tasks;
      areas = rw is_loaded.storage_after
          (all_areas_written (IsOwned r.terminals) (with_area r.shared.storage (Some loaded.at) (length image.text) program_owner) loaded.at (text_at loaded.at image)
          (all_areas_put (IsOwned r.terminals) r.shared.storage loaded.at (length image.text) program_owner refl ok.areas));
      resources = ok.resources;
      queues_sound = ok.queues_sound;
      resources_sound = ok.resources_sound;
      time = ok.time;
      date = ok.date;
      counter = ok.counter;
    }

-- the same, where queues and resources stay
pub sound_with_queues : (v : RegionState) (queues : Queues) (resources : Resources) → queues ≡ v.shared.queues → resources ≡ v.shared.resources → IsSound v → IsSound (record v { shared = record v.shared { queues = queues; resources = resources } })
sound_with_queues v queues resources e f ok = subst IsSound (λ i. record v { shared = record v.shared { queues = sym e i; resources = sym f i } }) ok
