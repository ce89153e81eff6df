-- What is made, written and ended by a command keeps.
use Rattle.std.proofs.Common.{◌≡◌, ℕ, suc, ◌<◌, ◌≤◌, Option, Some, None, List, [], ◌∷◌, length, refl, ◌∙◌, arith, unwrap_or}
use Rattle.cx_base.specs.declared.eib.EibField.TheVariants.{Fn, Rcode, Resp}
use Rattle.std.specs.Option.{option_map}
use Rattle.std.specs.Int.{to_be_bytes, w16, w32}
use Rattle.std.specs.Prelude.{⊤}
use Rattle.cx_base.specs.Eib.{eib_field}
use Rattle.cx_base.specs.declared.eib.EibField.{EibField}
use Rattle.cx_storage.specs.Storage.{Storage, areas_of, with_area, IsSoundStorage}
use Rattle.cx_storage.specs.Address.{address_after}
use Rattle.cx_storage.specs.Place.{IsLeastPlace}
use Rattle.cx_storage.specs.Facts.Sound.{sound_with_area}
use Rattle.cx_storage.specs.Facts.Writes.{areas_after_write}
use Rattle.cx_program.specs.Handles.{Handles, after_pop}
use Rattle.cx_region_state.specs.declared.report.CommandReport.{CommandReport}
use Rattle.cx_region_state.specs.declared.listed.Listed.{Listed}
use Rattle.cx_region_state.specs.declared.outputs.Output.{Output}
use Rattle.cx_region_state.specs.Report.{with_report, with_eib, with_set}
use Rattle.cx_region_state.specs.Call.{Call, place_of, resp_place}
use Rattle.cx_region_state.specs.Eib.{Content, with_calen, with_field, with_fields, content}
use Rattle.cx_region_state.specs.Outputs.{bytes_from, put_out, with_output}
use Rattle.cx_region_state.specs.declared.verdict.TaskChange.{TaskChange}
use Rattle.cx_region_state.specs.declared.verdict.TaskChange.TheVariants.{Nothing, Before, After, Gets, Enters, Replaces, LevelEnds, TaskEnds, AbendsWith}
use Rattle.cx_region_state.specs.declared.verdict.Copying.{Copying}
use Rattle.cx_region_state.specs.declared.verdict.BeforeOutputs.{BeforeOutputs}
use Rattle.cx_region_state.specs.declared.verdict.BeforeOutputs.TheVariants as made
use Rattle.cx_region_state.specs.declared.verdict.NewLevel.{NewLevel}
use Rattle.cx_region_state.specs.declared.verdict.Request.{Request}
use Rattle.cx_region_state.specs.declared.verdict.Request.TheVariants as request
use Rattle.cx_region_state.specs.Areas.{IsAreaOf, entry_level, first_of_tasks, got_owner, last_of_tasks, system_owner, with_cap, with_copied, with_copy_area, with_filled, with_stg_area}
use Rattle.cx_region_state.specs.Facts.Areas.{area_put, none_there}
use Rattle.cx_region_state.specs.State.{TaskContext, TaskState}
use Rattle.cx_region_state.specs.Parts.Fits.{FitsChange, FitsCopy, FitsLevel, FitsMade, FitsRequest}
use Rattle.cx_region_task.specs.Changes.{AppliesBefore, after_request, with_got, with_ignored, with_labels, with_replacement, with_stg}
use Rattle.cx_region_task.specs.Laws.HalfTurns.{others_areas}
use Rattle.cx_region_task.specs.Sound.{IsSoundLevel, IsSoundTask}
use Rattle.cx_region_task.proofs.MidLemmas.{Mid, begins}
use Rattle.cx_region_task.proofs.OwnAreas.{put_own}
use Rattle.cx_region_task.proofs.ReleaseLemmas.{enqueued_keeps}
use Rattle.cx_region_task.proofs.SoundSteps.{Owns, OwnStay, of_owns, one_begins, owns_of, owns_stay, put_stay}

-- ---- writes leave the areas
output_areas : (s : Storage) (place : Option ℕ) (bytes : List ℕ) → areas_of (with_output s place bytes) ≡ areas_of s
output_areas s None bytes = refl
output_areas s (Some place) bytes = areas_after_write s place bytes

pub put_out_areas : (s : Storage) (call : Call) (text : List ℕ) (outputs : List Output) → areas_of (put_out s call text outputs) ≡ areas_of s
unfolding put_out
put_out_areas s call text [] = refl
put_out_areas s call text (output ∷ rest) =
    put_out_areas (with_output s (place_of call output.option) (bytes_from text output.source)) call text rest
    ∙ output_areas s (place_of call output.option) (bytes_from text output.source)

fields_areas : (s : Storage) (eib : ℕ) (fields : List Content) → areas_of (with_fields s eib fields) ≡ areas_of s
unfolding with_field
fields_areas s eib [] = refl
fields_areas s eib (f ∷ fields) = fields_areas (with_field s eib f) eib fields ∙ areas_after_write s (address_after eib (eib_field f.field).offset) f.bytes

set_areas : (s : Storage) (eib : ℕ) (field : EibField) (bytes : Option (List ℕ)) → areas_of (with_set s eib field bytes) ≡ areas_of s
unfolding with_set with_field
set_areas s eib field None = refl
set_areas s eib field (Some bytes) = areas_after_write s (address_after eib (eib_field field).offset) bytes

calen_areas : (s : Storage) (eib : ℕ) (calen : Option ℕ) → areas_of (with_calen s eib calen) ≡ areas_of s
unfolding with_calen with_field
calen_areas s eib None = refl
calen_areas s eib (Some calen) = areas_after_write s (address_after eib 24) _

pub answered_areas : (s : Storage) (eib : ℕ) (call : Call) (answer : CommandReport) → areas_of (with_report s eib call answer) ≡ areas_of s
unfolding with_report with_eib
answered_areas s eib call answer =
    output_areas (with_eib s eib answer) (resp_place call) (to_be_bytes w32 answer.condition)
    ∙ calen_areas _ eib answer.calen
    ∙ set_areas _ eib _ (option_map (λ byte. byte ∷ []) answer.aid)
    ∙ set_areas _ eib _ answer.resource
    ∙ fields_areas s eib (content Fn (to_be_bytes w16 answer.function) ∷ content Rcode (answer.condition ∷ 0 ∷ 0 ∷ 0 ∷ 0 ∷ 0 ∷ []) ∷ content Resp (to_be_bytes w32 answer.condition) ∷ [])

-- ---- handles
labels_kept : (listed : List Listed) (handles : Handles) → (with_labels listed handles).kept ≡ handles.kept
unfolding with_labels
labels_kept [] handles = refl
labels_kept (l ∷ rest) handles = labels_kept rest _

ignored_kept : (listed : List Listed) (handles : Handles) → (with_ignored listed handles).kept ≡ handles.kept
unfolding with_ignored
ignored_kept [] handles = refl
ignored_kept (l ∷ rest) handles = ignored_kept rest _

popped_kept : (handles : Handles) → length handles.kept ≤ 16 → length (unwrap_or (after_pop handles.kept) handles).kept ≤ 16
popped_kept handles few = go handles.kept few
  where
    go : (kept : List _) → length kept ≤ 16 → length (unwrap_or (after_pop kept) handles).kept ≤ 16
    go [] e = few
    go (last ∷ rest) e = omega (arith, e)

handled_few : (asked : Request) (r : TaskContext) → FitsRequest asked r → length r.task.levels.current.handles.kept ≤ 16 → length (after_request asked r.task.levels.current.handles).kept ≤ 16
unfolding after_request
handled_few (request.Handle listed) r fits few = rw (labels_kept listed r.task.levels.current.handles) few
handled_few (request.Ignore listed) r fits few = rw (ignored_kept listed r.task.levels.current.handles) few
handled_few request.Push r fits few = omega (arith, fits)
handled_few request.Pop r fits few = popped_kept r.task.levels.current.handles few
handled_few (request.SetExit label) r fits few = few
handled_few request.ExitOff r fits few = few
handled_few request.ExitOn r fits few = few

-- ---- what is made
-- what is where a level begins
abbrev pub Standing : TaskChange → ℕ → Storage → TaskState → Type 0
Standing (Enters level) slot s task = Owns 15 slot s task.eib (task.levels.current ∷ task.levels.callers) (entry_level level task.eib)
Standing (Replaces copying level) slot s task = Owns 16 slot s task.eib (task.levels.current ∷ task.levels.callers) (entry_level level task.eib)
Standing _ slot s task = ⊤

pub record Grew (change : TaskChange) (start mid : TaskContext) : Type 0 where
  pub held : Mid start mid
  pub stands : Standing change start.terminal_entry.slot held.storage mid.task

made_keeps : (it : BeforeOutputs) (start after : TaskContext) → FitsMade it start → Mid start start → AppliesBefore (Before it) start after → Mid start after
unfolding AppliesBefore
made_keeps (made.ItemLast name piece) start after fits held applied =
    rw applied (record { slot = refl; programs = refl; resources = refl; storage = held.storage; sound = held.sound; same = held.same; others = held.others; task = held.task })
made_keeps (made.ItemAt name n piece) start after fits held applied =
    rw applied (record { slot = refl; programs = refl; resources = refl; storage = held.storage; sound = held.sound; same = held.same; others = held.others; task = held.task })
made_keeps (made.Enqueues resource) start after fits held applied =
    rw applied (record {
      slot = refl;
      programs = refl;
      resources = enqueued_keeps start.shared.resources start.terminal_entry.slot resource fits;
      storage = held.storage;
      sound = held.sound;
      same = held.same;
      others = held.others;
      task = held.task;
    })
made_keeps (made.Shows piece erase) start after fits held applied =
    rw applied.others (record { slot = refl; programs = refl; resources = refl; storage = held.storage; sound = held.sound; same = held.same; others = held.others; task = held.task })
made_keeps (made.Handles asked) start after fits held applied =
    let own = held.task in
    rw applied (record {
      slot = refl;
      programs = refl;
      resources = refl;
      storage = held.storage;
      sound = held.sound;
      same = held.same;
      others = held.others;
      task = record {
        eib = own.eib;
        current = record { stg = own.current.stg; pushes = handled_few asked start fits own.current.pushes };
        callers = own.callers;
        few = own.few;
        apart = own.apart;
      };
    })

-- a level's area, put in where storage has its place
level_put : (s : Storage) (slot : ℕ) (level : NewLevel) → IsSoundStorage s → FitsLevel s level → IsAreaOf (with_stg_area s slot level) slot level.stg level.loaded.stg_len
unfolding IsLeastPlace
level_put s slot level ok fits =
    let low = fits.program.stg_low in
    area_put s first_of_tasks last_of_tasks level.loaded.stg_len level.stg (system_owner slot) ok (omega (arith, low)) fits.place.0

entry_sound : (s : Storage) (slot eib : ℕ) (level : NewLevel) → IsAreaOf s slot level.stg level.loaded.stg_len → IsSoundLevel s slot (entry_level level eib)
unfolding entry_level
entry_sound s slot eib level there = record { stg = there; pushes = omega arith }

level_begins : (k : ℕ) (s : Storage) (slot : ℕ) (level : NewLevel) (task : TaskState) → IsSoundStorage s → FitsLevel s level → Owns 15 slot s task.eib task.levels.callers task.levels.current
    → suc (length task.levels.callers) ≤ k → Owns k slot (with_stg_area s slot level) task.eib (task.levels.current ∷ task.levels.callers) (entry_level level task.eib)
unfolding entry_level
level_begins k s slot level task ok fits owns few =
    let low = fits.program.stg_low in
    let some : 0 < level.loaded.stg_len = omega (arith, low) in
    one_begins 15 k slot s (with_stg_area s slot level) task.eib task.levels.callers task.levels.current (entry_level level task.eib)
    (none_there s level.loaded.stg_len level.stg ok some fits.place)
    (put_stay slot s level.loaded.stg_len level.stg (system_owner slot) ok some fits.place)
    (entry_sound (with_stg_area s slot level) slot task.eib level (level_put s slot level ok fits)) few owns

stg_sound : (s : Storage) (slot : ℕ) (level : NewLevel) → IsSoundStorage s → FitsLevel s level → IsSoundStorage (with_stg_area s slot level)
stg_sound s slot level ok fits =
    let low = fits.program.stg_low in
    sound_with_area s first_of_tasks last_of_tasks level.loaded.stg_len (Some level.stg) (system_owner slot) ok (omega arith) (omega (arith, low)) fits.place

cap_areas : (s : Storage) (level : NewLevel) → areas_of (with_cap s level) ≡ areas_of s
unfolding with_cap
cap_areas s level = areas_after_write s _ _

copied_areas : (s : Storage) (copying : Option Copying) (bytes : List ℕ) → areas_of (with_copied s copying bytes) ≡ areas_of s
unfolding with_copied
copied_areas s None bytes = refl
copied_areas s (Some copying) bytes = areas_after_write s copying.to bytes

copy_sound : (s : Storage) (slot : ℕ) (copying : Option Copying) → IsSoundStorage s → FitsCopy copying s → IsSoundStorage (with_copy_area s slot copying)
unfolding with_copy_area
copy_sound s slot None ok fits = ok
copy_sound s slot (Some copying) ok fits =
    sound_with_area s first_of_tasks last_of_tasks copying.from.len (Some copying.to) (system_owner slot) ok (omega arith) fits.some fits.place

copy_others : (s : Storage) (slot : ℕ) (copying : Option Copying) → others_areas slot (with_copy_area s slot copying) ≡ others_areas slot s
unfolding with_copy_area
copy_others s slot None = refl
copy_others s slot (Some copying) = put_own s slot copying.to copying.from.len (system_owner slot) refl

copy_stay : (s : Storage) (slot : ℕ) (copying : Option Copying) → IsSoundStorage s → FitsCopy copying s → OwnStay slot s (with_copy_area s slot copying)
unfolding with_copy_area
copy_stay s slot None ok fits = λ start len there. there
copy_stay s slot (Some copying) ok fits = put_stay slot s copying.from.len copying.to (system_owner slot) ok fits.some fits.place

pub applied_keeps : (change : TaskChange) (start mid : TaskContext) → IsSoundStorage start.shared.storage → IsSoundTask start.shared.storage start.terminal_entry.slot start.task → FitsChange change start
    → AppliesBefore change start mid → Grew change start mid
unfolding AppliesBefore with_got with_filled with_stg with_replacement
applied_keeps Nothing start mid ok own fits applied = rw applied (record { held = begins start ok own; stands = tt })
applied_keeps (Before it) start mid ok own fits applied = record { held = made_keeps it start mid fits (begins start ok own) applied; stands = tt }
applied_keeps (After it) start mid ok own fits applied = rw applied (record { held = begins start ok own; stands = tt })
applied_keeps LevelEnds start mid ok own fits applied = rw applied (record { held = begins start ok own; stands = tt })
applied_keeps (AbendsWith code cancel) start mid ok own fits applied = rw applied (record { held = begins start ok own; stands = tt })
applied_keeps (TaskEnds next) start mid ok own fits applied =
    rw applied (record { held = record { slot = refl; programs = refl; resources = refl; storage = start.shared.storage; sound = ok; same = refl; others = refl; task = own }; stands = tt })
applied_keeps (Gets got) start mid ok own fits applied =
    let s = start.shared.storage in
    let slot = start.terminal_entry.slot in
    let t = with_area s (Some got.place) got.len (got_owner slot) in
    rw applied (record {
      held = record {
        slot = refl;
        programs = refl;
        resources = refl;
        storage = t;
        sound = sound_with_area s first_of_tasks last_of_tasks got.len (Some got.place) (got_owner slot) ok (omega arith) fits.some fits.place;
        same = areas_after_write t got.place _;
        others = put_own s slot got.place got.len (got_owner slot) refl;
        task = of_owns slot t start.task (owns_stay 15 slot s t start.task.eib start.task.levels.callers start.task.levels.current
            (put_stay slot s got.len got.place (got_owner slot) ok fits.some fits.place) (owns_of slot s start.task own));
      };
      stands = tt;
    })
applied_keeps (Enters level) start mid ok own fits applied =
    let s = start.shared.storage in
    let slot = start.terminal_entry.slot in
    let t = with_stg_area s slot level in
    let few = fits.few in
    let low = fits.begins.program.stg_low in
    let owns = owns_of slot s start.task own in
    rw applied (record {
      held = record {
        slot = refl;
        programs = refl;
        resources = refl;
        storage = t;
        sound = stg_sound s slot level ok fits.begins;
        same = cap_areas t level;
        others = put_own s slot level.stg level.loaded.stg_len (system_owner slot) refl;
        task = of_owns slot t start.task (owns_stay 15 slot s t start.task.eib start.task.levels.callers start.task.levels.current
            (put_stay slot s level.loaded.stg_len level.stg (system_owner slot) ok (omega (arith, low)) fits.begins.place) owns);
      };
      stands = level_begins 15 s slot level start.task ok fits.begins owns (omega (arith, few));
    })
applied_keeps (Replaces copying level) start mid ok own fits applied =
    let s = start.shared.storage in
    let slot = start.terminal_entry.slot in
    let c = with_copy_area s slot copying in
    let t = with_stg_area c slot level in
    let few = own.few in
    let low = fits.begins.program.stg_low in
    let copy_ok = copy_sound s slot copying ok fits.copy in
    let owns = owns_stay 15 slot s c start.task.eib start.task.levels.callers start.task.levels.current (copy_stay s slot copying ok fits.copy) (owns_of slot s start.task own) in
    rw applied (record {
      held = record {
        slot = refl;
        programs = refl;
        resources = refl;
        storage = t;
        sound = stg_sound c slot level copy_ok fits.begins;
        same = cap_areas _ level ∙ copied_areas t copying _;
        others = put_own c slot level.stg level.loaded.stg_len (system_owner slot) refl ∙ copy_others s slot copying;
        task = of_owns slot t start.task (owns_stay 15 slot c t start.task.eib start.task.levels.callers start.task.levels.current
            (put_stay slot c level.loaded.stg_len level.stg (system_owner slot) copy_ok (omega (arith, low)) fits.begins.place) owns);
      };
      stands = level_begins 16 c slot level start.task copy_ok fits.begins owns (omega (arith, few));
    })
