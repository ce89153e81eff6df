-- A program that is entered by LINK or XCTL finds its COMMAREA.
use Rattle.std.proofs.Common.{◌≡◌, ℕ, ◌+◌, ◌^◌, ◌<◌, ◌≤◌, Bool, true, false, Option, Some, None, is_some, List, [], length, slice_index, refl, sym, ◌∙◌, ap, subst, arith, inl, inr}
use Rattle.std.specs.Prelude.{◌⊎◌, ◌&&◌, Result, Ok, Err, unwrap_or}
use Rattle.std.specs.Option.{option_map, option_map_or}
use Rattle.std.specs.Int.{w16, w32, to_be_bytes}
use Rattle.std.proofs.lemmas.Bool.{cases_Bool, ltb-true, ne_eqb, true≢false}
use Rattle.std.proofs.lemmas.Option.{none-some, same_Some}
use Rattle.cx_base.specs.declared.commands.Command.{Command}
use Rattle.cx_base.specs.declared.commands.Command.TheVariants as command
use Rattle.cx_base.specs.declared.conditions.Condition.{Condition}
use Rattle.cx_base.specs.declared.conditions.Condition.TheVariants.{Normal}
use Rattle.cx_base.specs.declared.eib.EibField.TheVariants.{Calen}
use Rattle.cx_base.specs.declared.options.OptionName.TheVariants as option
use Rattle.cx_base.specs.Eib.{eib_len}
use Rattle.cx_program.specs.declared.level.Level.{Level}
use Rattle.cx_storage.specs.Address.{address_after, address_in, distance}
use Rattle.cx_storage.specs.Storage.{Storage, after_write, area_at, area_from, areas_of, byte_at, span, starts_elsewhere, with_area, with_areas_kept, AreOrdered, IsSoundStorage}
use Rattle.cx_storage.specs.Place.{IsLeastPlace}
use Rattle.cx_storage.specs.Word.{word_at}
use Rattle.cx_storage.specs.Facts.Areas.{area_bounds, area_of_areas, area_span}
use Rattle.cx_storage.specs.Facts.Sound.{sound_with_area}
use Rattle.cx_storage.specs.Facts.Spans.{span_at, span_from, span_has}
use Rattle.cx_storage.specs.Facts.Writes.{areas_after_write, span_after_write, span_present_after_write}
use Rattle.cx_region_state.specs.declared.call.CallFault.{CallFault}
use Rattle.cx_region_state.specs.declared.inputs.StorageSpan.{StorageSpan}
use Rattle.cx_region_state.specs.declared.outputs.Output.{Output}
use Rattle.cx_region_state.specs.Report.{with_report}
use Rattle.cx_region_state.specs.Call.{Call, call_of, place_of, resp_place}
use Rattle.cx_region_state.specs.Facts.Inputs.{place_below}
use Rattle.cx_region_state.specs.Inputs.{are_inputs_there, length_option}
use Rattle.cx_region_state.specs.Laws.Calls.{CallIsRead}
use Rattle.cx_region_state.specs.Outputs.{put_out}
use Rattle.cx_region_commands.specs.Common.{commarea_of, new_level}
use Rattle.cx_region_state.specs.Areas.{IsAreaOf, IsTaskPlace, bytes_in, entry_level, first_of_tasks, last_of_tasks, length_or_zero, system_owner, with_cap, with_copied, with_copy_area, with_stg_area}
use Rattle.cx_region_state.specs.Facts.Areas.{area_kept_any, area_kept_get, area_put, none_there}
use Rattle.cx_region_state.specs.declared.replies.TurnReply.TheVariants as turn
use Rattle.cx_region_state.specs.declared.verdict.Copying.{Copying}
use Rattle.cx_region_state.specs.declared.verdict.NewLevel.{NewLevel}
use Rattle.cx_region_state.specs.declared.verdict.TaskChange.{TaskChange}
use Rattle.cx_region_state.specs.declared.verdict.TaskChange.TheVariants.{Enters, Replaces}
use Rattle.cx_region_state.specs.declared.verdict.Verdict.TheVariants.{Meets}
use Rattle.cx_region_state.specs.Parts.Fits.{FitsChange, FitsLevel, IsPlacedCopy}
use Rattle.cx_region_state.specs.State.{TaskContext}
use Rattle.cx_region_state.specs.Verdicts.{handed_over}
use Rattle.cx_region_task.specs.Changes.{AppliesBefore, apply_after, report_of, with_replacement, with_stg, write_outputs, write_report}
use Rattle.cx_region_task.specs.Continuations.{enter_level, replace_level}
use Rattle.cx_region_task.specs.Laws.HalfTurns.{HalfTurnsKeep}
use Rattle.cx_region_task.specs.Performing.{argument_list}
use Rattle.cx_region_task.specs.Turn.{HalfTurn}
use Rattle.cx_region_laws.specs.Laws.Bytes.{is_among}
use Rattle.cx_region_laws.specs.Laws.Commareas.{EnteredFindCommareas, FindsCommarea, IsCommareaApart, passed_by}
use Rattle.cx_region_laws.specs.Laws.Reports.{IsSoundContext, field_at}
use Rattle.cx_region_laws.proofs.AppliedLemmas.{applied_task}
use Rattle.cx_region_laws.proofs.CalenLemmas.{HasEntered, IsReplacing, entered, entered_calen}
use Rattle.cx_region_laws.proofs.ClearLemmas.{placed_ends}
use Rattle.cx_region_laws.proofs.CommandLemmas.{resource_reported, text_same}
use Rattle.cx_region_laws.proofs.EibLemmas.{IsEibThere, answer_areas, outputs_areas}
use Rattle.cx_region_laws.proofs.EntryLemmas.{IsLink, IsPassed, IsXctl, begins, copy_of, judged_begins, passed_cases}
use Rattle.cx_region_laws.proofs.MadeLemmas.{Stays, applied_stays, copy_sound}
use Rattle.cx_region_laws.proofs.ReportLemmas.{AllInStorage, all_in_storage, answered_from, commits_stg, eib_low, eib_there, put_from, some_of}
use Rattle.cx_region_laws.proofs.RowLemmas.{passes}
use Rattle.cx_region_laws.proofs.StandLemmas.{KeepsPresent, area_present, report_elsewhere, spans_kept}
use Rattle.cx_region_laws.proofs.StayingLemmas.{freed_span, freed_stays, fresh_absent, inside_apart, ordered_same, span_agree}
use Rattle.cx_region_laws.proofs.WrittenLemmas.{AreLow, resource_fits, resp_low}

-- ---- what has a byte before is no address of a fresh area
-- an address without a byte is none of the EIB's
eib_elsewhere : (s : Storage) (eib x : ℕ) → eib + eib_len ≤ 2 ^ 24 → IsEibThere s eib → x < 2 ^ 24 → byte_at s x ≡ None → is_among x (Some eib) eib_len ≡ false
eib_elsewhere s eib x ends there low absent = elim (cases_Bool (is_among x (Some eib) eib_len)) [
  | inl inside ↦
      let near = ltb-true _ _ inside in
      let present = there x (omega (arith, near, ends, low)) (omega (arith, near, ends, low)) in
      absurd (true≢false (sym present ∙ ap is_some absent))
  | inr outside ↦ outside
]

-- nor of RESP's word, which is in storage
resp_elsewhere : (s : Storage) (resp : Option ℕ) (x : ℕ) → ((p : ℕ) → resp ≡ Some p → p < 2 ^ 24) → ((p : ℕ) → resp ≡ Some p → is_some (span s p 4) ≡ true)
    → x < 2 ^ 24 → byte_at s x ≡ None → is_among x resp 4 ≡ false
resp_elsewhere s None x low there below absent = refl
resp_elsewhere s (Some p) x low there below absent = elim (cases_Bool (is_among x (Some p) 4)) [
  | inl inside ↦
      let near = ltb-true _ _ inside in
      let first = low p refl in
      let at : address_after p (distance p x) ≡ x = omega (arith, near, first, below) in
      let present : is_some (byte_at s x) ≡ true = rw at at (span_has s p 4 (distance p x) first (there p refl) near) in
      absurd (true≢false (sym present ∙ ap is_some absent))
  | inr outside ↦ outside
]

resp_there : (s : Storage) (call : Call) (p : ℕ) → are_inputs_there s call ≡ true → resp_place call ≡ Some p → is_some (span s p 4) ≡ true
unfolding are_inputs_there
resp_there s call p there is =
    sym (ap (λ (o : Option ℕ). option_map_or (λ place. is_some (span s place 4)) o true) is) ∙ second_of _ _ there
  where
    second_of : (a b : Bool) → a && b ≡ true → b ≡ true
    second_of true b e = e
    second_of false b e = cc

-- ---- DFHEICAP
-- the address that a level begins with
abbrev pub cap_of : NewLevel → ℕ
cap_of level = option_map_or (λ piece. piece.place) level.commarea 0

pub cap_stands : (s : Storage) (level : NewLevel) → level.stg + 80 ≤ 2 ^ 24 → is_some (span s (level.stg + 76) 4) ≡ true
    → span (with_cap s level) (address_after level.stg 76) 4 ≡ Some (to_be_bytes w32 (cap_of level))
unfolding with_cap
cap_stands s level ends there =
    let at : address_after level.stg 76 ≡ level.stg + 76 = omega (arith, ends) in
    span_after_write s (address_after level.stg 76) (to_be_bytes w32 (cap_of level)) (omega arith) (omega arith) (rw at there)

pub word_from : (s : Storage) (a word : ℕ) → word < 2 ^ 32 → span s a 4 ≡ Some (to_be_bytes w32 word) → word_at s a ≡ Some word
unfolding word_at
word_from s a word small whole = rw whole (ap Some (omega (arith, small)))

-- ---- the report leaves what had no byte before
-- storage with the report
done_of : (before after : TaskContext) → AllInStorage turn.Entered Normal before after → Storage
done_of before after all = answered_from before all.met.call all.met.condition all.met.outputs all.met.change all.answered.made

done_areas : (before after : TaskContext) (all : AllInStorage turn.Entered Normal before after) → areas_of (done_of before after all) ≡ areas_of all.answered.made.shared.storage
unfolding done_of
done_areas before after all =
    let met = all.met in
    let made = all.answered.made in
    answer_areas (put_from before met.call met.outputs met.change made) before.task.eib met.call (report_of met.call met.condition met.change before) ∙ outputs_areas made.shared.storage met.call (handed_over met.change before) met.outputs

ordered_of : (before after : TaskContext) (all : AllInStorage turn.Entered Normal before after) → IsSoundContext before → AreOrdered (done_of before after all)
ordered_of before after all ok =
    let made = all.answered.made in
    ordered_same made.shared.storage (done_of before after all) (done_areas before after all) (applied_stays all.met.change before made ok.storage all.fits all.answered.applied).ordered

elsewhere : (before after : TaskContext) (all : AllInStorage turn.Entered Normal before after) (x : ℕ) → IsSoundContext before → all.met.outputs ≡ []
    → is_among x (Some before.task.eib) eib_len ≡ false → is_among x (resp_place all.met.call) 4 ≡ false → byte_at (done_of before after all) x ≡ byte_at all.answered.made.shared.storage x
unfolding done_of put_out
elsewhere before after all x ok none off_eib off_resp =
    let met = all.met in
    let made = all.answered.made in
    let ends = eib_low before.shared.storage before.terminal_entry.slot before.task.eib ok.storage ok.task.eib in
    let low : before.task.eib < 2 ^ 24 = omega (arith, ends) in
    report_elsewhere (put_from before met.call met.outputs met.change made) before.task.eib met.call (report_of met.call met.condition met.change before) x all.low low
    (λ bytes e. resource_fits before.shared.storage met.call bytes (sym (resource_reported met.call met.condition met.change before) ∙ e)) off_eib off_resp
    ∙ ap (λ (outputs : List Output). byte_at (put_out made.shared.storage met.call (handed_over met.change before) outputs) x) none

-- of a storage with what had a byte before, an address without one
absent_left : (before after : TaskContext) (all : AllInStorage turn.Entered Normal before after) (s1 : Storage) (x : ℕ) → IsSoundContext before → all.met.outputs ≡ []
    → KeepsPresent before.shared.storage s1 → x < 2 ^ 24 → byte_at s1 x ≡ None → byte_at (done_of before after all) x ≡ byte_at all.answered.made.shared.storage x
absent_left before after all s1 x ok none keeps low absent =
    let met = all.met in
    let s = before.shared.storage in
    let ends = eib_low s before.terminal_entry.slot before.task.eib ok.storage ok.task.eib in
    let there = eib_there s before.terminal_entry.slot before.task.eib ok.storage ok.task.eib in
    elsewhere before after all x ok none
    (eib_elsewhere s1 before.task.eib x ends (λ y from to. keeps y (there y from to)) low absent)
    (resp_elsewhere s1 (resp_place met.call) x (λ p e. resp_low met.call p all.low e) (λ p e. spans_kept s s1 keeps p 4 (resp_there s met.call p met.inputs e)) low absent)

-- ---- DFHEICAP afterwards
cap_after : (before after : TaskContext) (all : AllInStorage turn.Entered Normal before after) (level : NewLevel) (s1 : Storage) → IsSoundContext before → all.met.outputs ≡ []
    → KeepsPresent before.shared.storage s1 → FitsLevel s1 level → IsAreaOf after.shared.storage before.terminal_entry.slot level.stg level.loaded.stg_len
    → span all.answered.made.shared.storage (address_after level.stg 76) 4 ≡ Some (to_be_bytes w32 (cap_of level))
    → span after.shared.storage (address_after level.stg 76) 4 ≡ Some (to_be_bytes w32 (cap_of level))
unfolding done_of
cap_after before after all level s1 ok none keeps fits area made_cap =
    let long = fits.program.stg_low in
    let ends = placed_ends s1 level.loaded.stg_len level.stg fits.place in
    let at : address_after level.stg 76 ≡ level.stg + 76 = omega (arith, ends, long) in
    freed_span (done_of before after all) after.shared.storage level.stg (area_from level.stg level.loaded.stg_len (system_owner before.terminal_entry.slot)) (address_after level.stg 76) 4
    (ordered_of before after all ok) all.answered.freed area (omega (arith, at)) (omega (arith, at, long)) ends (omega arith)
    ∙ span_agree (done_of before after all) all.answered.made.shared.storage (address_after level.stg 76) 4 (omega arith) (λ k less.
    let here : address_after (address_after level.stg 76) k ≡ level.stg + 76 + k = omega (arith, ends, long, less) in
    absent_left before after all s1 (address_after (address_after level.stg 76) k) ok none keeps (omega arith)
    (rw here (fresh_absent s1 level.loaded.stg_len level.stg (level.stg + 76 + k) fits.place (omega arith) (omega (arith, long, less)))))
    ∙ made_cap

-- ---- the level
entry_area : HalfTurnsKeep → (before after : TaskContext) (level : NewLevel) (eib : ℕ) → IsSoundContext before → HalfTurn before turn.Entered after → after.task.levels.current ≡ entry_level level eib
    → IsAreaOf after.shared.storage before.terminal_entry.slot level.stg level.loaded.stg_len
unfolding entry_level
entry_area keeps before after level eib ok half is =
    let own = (keeps before after turn.Entered ok.storage ok.programs ok.queues ok.task half).task refl in
    subst (λ (l : Level). IsAreaOf after.shared.storage before.terminal_entry.slot l.stg l.stg_len) is own.current.stg

entry_stg : (level : NewLevel) (eib : ℕ) → (entry_level level eib).stg ≡ level.stg
unfolding entry_level
entry_stg level eib = refl

entry_calen : (level : NewLevel) (eib : ℕ) → (entry_level level eib).calen ≡ length_or_zero level.commarea
unfolding entry_level
entry_calen level eib = refl

-- a program finds what its level was given
finds : (before after : TaskContext) (all : AllInStorage turn.Entered Normal before after) (level : NewLevel) (eib : ℕ) (bytes : List ℕ) → after.task.levels.current ≡ entry_level level eib
    → (report_of all.met.call all.met.condition all.met.change before).calen ≡ Some after.task.levels.current.calen
    → span after.shared.storage (address_after level.stg 76) 4 ≡ Some (to_be_bytes w32 (cap_of level)) → cap_of level < 2 ^ 32
    → length_or_zero level.commarea ≡ length bytes → span after.shared.storage (cap_of level) (length bytes) ≡ Some bytes → (bytes ≡ [] → cap_of level ≡ 0)
    → FindsCommarea after.shared.storage after.task bytes
finds before after all level eib bytes is calen cap small long there none =
    let len : after.task.levels.current.calen ≡ length bytes = ap (λ (l : Level). l.calen) is ∙ entry_calen level eib ∙ long in
    let stg : after.task.levels.current.stg ≡ level.stg = ap (λ (l : Level). l.stg) is ∙ entry_stg level eib in
    record {
      calen =
          ap (λ (n : ℕ). field_at after.shared.storage n Calen) all.eib ∙ all.stores.calen after.task.levels.current.calen calen ∙ ap (λ (n : ℕ). Some (to_be_bytes w16 n)) len;
      place = cap_of level;
      cap = ap (λ (n : ℕ). word_at after.shared.storage (address_after n 76)) stg ∙ word_from after.shared.storage (address_after level.stg 76) (cap_of level) small cap;
      there = there;
      none = none;
    }

-- ---- LINK
link_entry : (level : NewLevel) (committed after : TaskContext) → after ≡ enter_level level committed → after.task.levels.current ≡ entry_level level committed.task.eib
unfolding enter_level
link_entry level committed after e = ap (λ (r : TaskContext). r.task.levels.current) e

committed_storage : (before after : TaskContext) (all : AllInStorage turn.Entered Normal before after) → ((r : TaskContext) → (apply_after all.met.change r).shared.storage ≡ r.shared.storage)
    → all.met.committed.shared.storage ≡ done_of before after all
unfolding done_of write_outputs write_report
committed_storage before after all nothing =
    let met = all.met in
    let made = met.commits.made in
    let task = applied_task met.change before made met.commits.applied in
    ap (λ (r : TaskContext). r.shared.storage) met.commits.committed
    ∙ nothing (write_report met.call (report_of met.call met.condition met.change before) (write_outputs met.call met.outputs met.change made))
    ∙ ap (λ (text : List ℕ). with_report (put_out made.shared.storage met.call text met.outputs) made.task.eib met.call (report_of met.call met.condition met.change before)) (text_same met.change before made met.commits.applied)
    ∙ ap (λ (eib : ℕ). with_report (put_from before met.call met.outputs met.change made) eib met.call (report_of met.call met.condition met.change before)) task.eib
    ∙ ap (λ (r : TaskContext). answered_from before met.call met.condition met.outputs met.change r) (sym all.made)

enters_nothing : (level : NewLevel) (change : TaskChange) → change ≡ Enters level → (r : TaskContext) → (apply_after change r).shared.storage ≡ r.shared.storage
unfolding apply_after
enters_nothing level change is r = rw is refl

replaces_nothing : (level : NewLevel) (copying : Option Copying) (change : TaskChange) → change ≡ Replaces copying level → (r : TaskContext) → (apply_after change r).shared.storage ≡ r.shared.storage
unfolding apply_after
replaces_nothing level copying change is r = rw is refl

link_storage : (before after : TaskContext) (all : AllInStorage turn.Entered Normal before after) (level : NewLevel) → all.met.change ≡ Enters level → after ≡ enter_level level all.met.committed
    → after.shared.storage ≡ done_of before after all
unfolding enter_level
link_storage before after all level change goes =
    ap (λ (r : TaskContext). r.shared.storage) goes ∙ committed_storage before after all (enters_nothing level all.met.change change)

-- storage with the level's DFHEISTG
link_made : (before after : TaskContext) (all : AllInStorage turn.Entered Normal before after) (level : NewLevel) → all.met.change ≡ Enters level
    → all.answered.made.shared.storage ≡ with_cap (with_stg_area before.shared.storage before.terminal_entry.slot level) level
unfolding AppliesBefore with_stg
link_made before after all level change =
    let applied : AppliesBefore (Enters level) before all.answered.made = subst (λ (c : TaskChange). AppliesBefore c before all.answered.made) change all.answered.applied in
    ap (λ (r : TaskContext). r.shared.storage) applied

pub stg_there : (s : Storage) (slot : ℕ) (level : NewLevel) → IsSoundStorage s → FitsLevel s level → is_some (span (with_stg_area s slot level) (level.stg + 76) 4) ≡ true
unfolding IsLeastPlace
stg_there s slot level ok fits =
    let long = fits.program.stg_low in
    let ok_now : IsSoundStorage (with_stg_area s slot level) = sound_with_area s 0x200000 0xFFFFFF level.loaded.stg_len (Some level.stg) (system_owner slot) ok (omega arith) (omega (arith, long)) fits.place in
    area_span (with_stg_area s slot level) level.stg (area_from level.stg level.loaded.stg_len (system_owner slot)) (level.stg + 76) 4 ok_now
    (area_put s first_of_tasks last_of_tasks level.loaded.stg_len level.stg (system_owner slot) ok (omega (arith, long)) fits.place.0) (omega arith) (omega (arith, long))

-- the address of what is found is one
cap_small : (s : Storage) (call : Call) (bytes : List ℕ) (piece : StorageSpan) → AreLow call.places → IsPassed s call bytes piece → piece.place < 2 ^ 24
cap_small s call bytes piece low it = place_below call option.Commarea piece.place low it.place

link_finds : (before after : TaskContext) (all : AllInStorage turn.Entered Normal before after) (level : NewLevel) (bytes : List ℕ) → IsSoundContext before → all.met.call.command ≡ command.Link
    → passed_by before.shared.storage all.met.call ≡ Some bytes → IsCommareaApart all.met.call.command before.task.eib all.met.call before.shared.storage
    → all.met.outputs ≡ [] → all.met.change ≡ Enters level → level.commarea ≡ commarea_of before.shared.storage all.met.call → after ≡ enter_level level all.met.committed
    → IsAreaOf after.shared.storage before.terminal_entry.slot level.stg level.loaded.stg_len
    → (report_of all.met.call all.met.condition all.met.change before).calen ≡ Some after.task.levels.current.calen → FindsCommarea after.shared.storage after.task bytes
unfolding span
link_finds before after all level bytes ok linked passed apart none change given goes area calen = elim (passed_cases s all.met.call bytes passed) [
  | inl nothing ↦
      let empty : level.commarea ≡ None = given ∙ nothing.1 in
      rw (nothing.0) (finds before after all level all.met.committed.task.eib [] (link_entry level all.met.committed after goes) calen cap (rw empty (omega arith)) (rw empty refl) refl (λ e. rw empty refl))
  | inr some ↦
      let piece = some.0 in
      let it = some.1 in
      let is : level.commarea ≡ Some piece = given ∙ it.commarea in
      let low = cap_small s all.met.call bytes piece all.low it in
      let low_cap : cap_of level < 2 ^ 32 = rw is (omega (arith, low)) in
      let filled = it.some in
      let long = it.long in
      finds before after all level all.met.committed.task.eib bytes (link_entry level all.met.committed after goes) calen cap low_cap (rw is (sym it.long)) (rw is (found piece it low)) (λ e. absurd (omega (arith, filled, long, ap length e)))
]
  where
    s : Storage
    s = before.shared.storage

    fits : FitsLevel s level
    fits = (subst (λ (c : TaskChange). FitsChange c before) change all.fits).begins

    cap : span after.shared.storage (address_after level.stg 76) 4 ≡ Some (to_be_bytes w32 (cap_of level))
    cap =
        let long = fits.program.stg_low in
        let ends = placed_ends s level.loaded.stg_len level.stg fits.place in
        cap_after before after all level s ok none (λ x e. e) fits area
        (ap (λ (t : Storage). span t (address_after level.stg 76) 4) (link_made before after all level change)
        ∙ cap_stands (with_stg_area s before.terminal_entry.slot level) level (omega (arith, ends, long)) (stg_there s before.terminal_entry.slot level ok.storage fits))

    stays : Stays s all.answered.made.shared.storage
    stays = applied_stays all.met.change before all.answered.made ok.storage all.fits all.answered.applied

    linked_apart : (place k : ℕ) → place_of all.met.call option.Commarea ≡ Some place → k < length_option s all.met.call
        → (is_among (address_after place k) (Some before.task.eib) eib_len ≡ false) × (is_among (address_after place k) (resp_place all.met.call) 4 ≡ false)
    linked_apart = subst (λ (c : Command). IsCommareaApart c before.task.eib all.met.call s) linked apart

    found : (piece : StorageSpan) → IsPassed s all.met.call bytes piece → piece.place < 2 ^ 24 → span after.shared.storage piece.place (length bytes) ≡ Some bytes
    found piece it low =
        span_from after.shared.storage piece.place (length bytes) bytes low refl (λ k less.
        let within : k < piece.len = omega (arith, less, it.long) in
        let measured : k < length_option s all.met.call = omega (arith, within, it.len) in
        let off = linked_apart piece.place k it.place measured in
        let was : byte_at s (address_after piece.place k) ≡ Some (slice_index bytes k) = span_at s piece.place piece.len bytes k low it.there within in
        ap (λ (t : Storage). byte_at t (address_after piece.place k)) (link_storage before after all level change goes)
        ∙ elsewhere before after all (address_after piece.place k) ok none off.0 off.1
        ∙ stays.bytes (address_after piece.place k) (slice_index bytes k) (omega arith) was)

-- ---- XCTL
xctl_entry : (level : NewLevel) (committed after : TaskContext) → after ≡ replace_level level committed → after.task.levels.current ≡ entry_level level committed.task.eib
unfolding replace_level
xctl_entry level committed after e = ap (λ (r : TaskContext). r.task.levels.current) e

xctl_storage : (before after : TaskContext) (all : AllInStorage turn.Entered Normal before after) (level : NewLevel) (copying : Option Copying) → all.met.change ≡ Replaces copying level
    → after ≡ replace_level level all.met.committed
    → after.shared.storage ≡ with_areas_kept (starts_elsewhere (address_in before.task.levels.current.stg)) (done_of before after all)
unfolding replace_level
xctl_storage before after all level copying change goes =
    let met = all.met in
    ap (λ (r : TaskContext). r.shared.storage) goes
    ∙ ap (λ (n : ℕ). with_areas_kept (starts_elsewhere (address_in n)) met.committed.shared.storage) (commits_stg before met.call met.condition met.outputs met.change met.committed met.commits)
    ∙ ap (with_areas_kept (starts_elsewhere (address_in before.task.levels.current.stg))) (committed_storage before after all (replaces_nothing level copying met.change change))

-- the bytes that are copied
abbrev bytes_of_copy : Storage → Option Copying → List ℕ
bytes_of_copy s copying = option_map_or (λ (copying : Copying). bytes_in s copying.from) copying []

-- storage with the copy, before DFHEICAP is written
abbrev with_bytes_copied : Storage → ℕ → Option Copying → NewLevel → Storage
with_bytes_copied s slot copying level = with_copied (with_stg_area (with_copy_area s slot copying) slot level) copying (bytes_of_copy s copying)

xctl_made : (before after : TaskContext) (all : AllInStorage turn.Entered Normal before after) (level : NewLevel) (copying : Option Copying) → all.met.change ≡ Replaces copying level
    → all.answered.made.shared.storage ≡ with_cap (with_bytes_copied before.shared.storage before.terminal_entry.slot copying level) level
unfolding AppliesBefore with_replacement
xctl_made before after all level copying change =
    let applied : AppliesBefore (Replaces copying level) before all.answered.made = subst (λ (c : TaskChange). AppliesBefore c before all.answered.made) change all.answered.applied in
    ap (λ (r : TaskContext). r.shared.storage) applied

copied_present : (s : Storage) (copying : Option Copying) (bytes : List ℕ) (b n : ℕ) → is_some (span (with_copied s copying bytes) b n) ≡ is_some (span s b n)
unfolding with_copied
copied_present s None bytes b n = refl
copied_present s (Some copying) bytes b n = span_present_after_write s copying.to bytes b n

copy_present : (s : Storage) (slot : ℕ) (copying : Option Copying) → KeepsPresent s (with_copy_area s slot copying)
unfolding with_copy_area
copy_present s slot None x e = e
copy_present s slot (Some copying) x e = area_present s copying.to copying.from.len (system_owner slot) x e

copied_areas : (s : Storage) (copying : Option Copying) (bytes : List ℕ) → areas_of (with_copied s copying bytes) ≡ areas_of s
unfolding with_copied
copied_areas s None bytes = refl
copied_areas s (Some copying) bytes = areas_after_write s copying.to bytes

cap_areas : (s : Storage) (level : NewLevel) → areas_of (with_cap s level) ≡ areas_of s
unfolding with_cap
cap_areas s level = areas_after_write s (address_after level.stg 76) (to_be_bytes w32 (cap_of level))

bytes_copied : (s : Storage) (piece : StorageSpan) (bytes : List ℕ) → span s piece.place piece.len ≡ Some bytes → bytes_in s piece ≡ bytes
bytes_copied s piece bytes e = ap (λ (o : Option (List ℕ)). unwrap_or o []) e

-- DFHEICAP is written where nothing was
pub cap_apart : (s t : Storage) (level : NewLevel) (x b : ℕ) → IsTaskPlace s level.loaded.stg_len (Some level.stg) → 80 ≤ level.loaded.stg_len → x < 2 ^ 24 → byte_at s x ≡ Some b
    → byte_at (with_cap t level) x ≡ byte_at t x
unfolding with_cap
cap_apart s t level x b least long low was =
    inside_apart s t level.loaded.stg_len level.stg 76 (to_be_bytes w32 (cap_of level)) x b least (omega (arith, long)) low was

-- what is in the copy's area when all is made
record HasCopy (s : Storage) (slot : ℕ) (copying : Copying) (level : NewLevel) (bytes : List ℕ) : Type 0 where
  area : area_at (with_cap (with_bytes_copied s slot (Some copying) level) level) copying.to ≡ Some (area_from copying.to copying.from.len (system_owner slot))
  there : (k : ℕ) → k < copying.from.len → byte_at (with_cap (with_bytes_copied s slot (Some copying) level) level) (copying.to + k) ≡ Some (slice_index bytes k)

has_copy : (s : Storage) (slot : ℕ) (copying : Copying) (level : NewLevel) (bytes : List ℕ) → IsSoundStorage s → IsPlacedCopy copying s → FitsLevel (with_copy_area s slot (Some copying)) level
    → span s copying.from.place copying.from.len ≡ Some bytes → length bytes ≡ copying.from.len → HasCopy s slot copying level bytes
unfolding with_copy_area with_copied with_cap IsLeastPlace
has_copy s slot copying level bytes ok placed fits from long =
    let to = copying.to in
    let n = copying.from.len in
    let owner = system_owner slot in
    let some = placed.some in
    let ends = placed_ends s n to placed.place in
    let stg_long = fits.program.stg_low in
    let one = with_area s (Some to) n owner in
    let two = with_stg_area one slot level in
    let three = with_bytes_copied s slot (Some copying) level in
    let one_ok : IsSoundStorage one = sound_with_area s 0x200000 0xFFFFFF n (Some to) owner ok (omega arith) some placed.place in
    let first : area_at one to ≡ Some (area_from to n owner) = area_put s first_of_tasks last_of_tasks n to owner ok some placed.place.0 in
    let second : area_at two to ≡ Some (area_from to n owner) =
    area_kept_get one first_of_tasks last_of_tasks level.loaded.stg_len level.stg owner to (area_from to n owner) one_ok (omega (arith, stg_long)) fits.place.0 first in
    let two_ok : IsSoundStorage two = sound_with_area one 0x200000 0xFFFFFF level.loaded.stg_len (Some level.stg) owner one_ok (omega arith) (omega (arith, stg_long)) fits.place in
    let is : bytes_in s copying.from ≡ bytes = bytes_copied s copying.from bytes from in
    let low : to < 2 ^ 24 = omega (arith, ends, some) in
    let written : span (after_write two to bytes) to (length bytes) ≡ Some bytes =
    span_after_write two to bytes low (omega (arith, long, ends)) (rw long (area_span two to (area_from to n owner) to n two_ok second (omega arith) (omega arith))) in
    record {
      area = area_of_areas (with_cap three level) two to (cap_areas three level ∙ copied_areas two (Some copying) (bytes_of_copy s (Some copying))) ∙ second;
      there = λ k less.
          let at : address_after to k ≡ to + k = omega (arith, ends, less) in
          let within : k < length bytes = omega (arith, less, long) in
          let here : byte_at (after_write two to bytes) (to + k) ≡ Some (slice_index bytes k) = rw at at (span_at (after_write two to bytes) to (length bytes) bytes k low written within) in
          let before_cap : byte_at three (to + k) ≡ Some (slice_index bytes k) = ap (λ (l : List ℕ). byte_at (after_write two to l) (to + k)) is ∙ here in
          let present = some_of (byte_at one (to + k)) (rw at at (span_has one to n k low (area_span one to (area_from to n owner) to n one_ok first (omega arith) (omega arith)) less)) in
          cap_apart one three level (to + k) present.0 fits.place stg_long (omega (arith, ends, less)) present.1 ∙ before_cap;
    }

xctl_finds : (before after : TaskContext) (all : AllInStorage turn.Entered Normal before after) (level : NewLevel) (copying : Option Copying) (bytes : List ℕ) → IsSoundContext before
    → passed_by before.shared.storage all.met.call ≡ Some bytes → all.met.outputs ≡ [] → all.met.change ≡ Replaces copying level → level.commarea ≡ copy_of copying
    → commarea_of before.shared.storage all.met.call ≡ option_map (λ (copying : Copying). copying.from) copying → after ≡ replace_level level all.met.committed
    → IsAreaOf after.shared.storage before.terminal_entry.slot level.stg level.loaded.stg_len
    → (report_of all.met.call all.met.condition all.met.change before).calen ≡ Some after.task.levels.current.calen → FindsCommarea after.shared.storage after.task bytes
unfolding span
xctl_finds before after all level copying bytes ok passed none change given from goes area calen = by_copying copying change given from
  where
    s : Storage
    s = before.shared.storage

    slot : ℕ
    slot = before.terminal_entry.slot

    old : ℕ
    old = before.task.levels.current.stg

    cap : (c : Option Copying) → all.met.change ≡ Replaces c level → span after.shared.storage (address_after level.stg 76) 4 ≡ Some (to_be_bytes w32 (cap_of level))
    cap c change =
        let fits = subst (λ (c : TaskChange). FitsChange c before) change all.fits in
        let long = fits.begins.program.stg_low in
        let one = with_copy_area s slot c in
        let ends = placed_ends one level.loaded.stg_len level.stg fits.begins.place in
        let one_ok = copy_sound s slot c ok.storage fits.copy in
        let three = with_bytes_copied s slot c level in
        cap_after before after all level one ok none (copy_present s slot c) fits.begins area
        (ap (λ (t : Storage). span t (address_after level.stg 76) 4) (xctl_made before after all level c change)
        ∙ cap_stands three level (omega (arith, ends, long))
        (copied_present (with_stg_area one slot level) c (bytes_of_copy s c) (level.stg + 76) 4 ∙ stg_there one slot level one_ok fits.begins))

    -- the copy's area doesn't start where the old DFHEISTG does, which is freed
    kept : (to len : ℕ) → IsTaskPlace s len (Some to) → 0 < len → starts_elsewhere (address_in old) (area_from to len (system_owner slot)) ≡ true
    kept to len least some =
        let own = ok.task.current.stg in
        let bounds = area_bounds s old (area_from old before.task.levels.current.stg_len (system_owner slot)) ok.storage own in
        let here : address_in old ≡ old = omega (arith, bounds.1, bounds.2) in
        rw (here, ne_eqb to old (λ e. absurd (none-some (area_from old before.task.levels.current.stg_len (system_owner slot)) (sym (none_there s len to ok.storage some least) ∙ ap (area_at s) e ∙ own)))) refl

    found : (c : Copying) → all.met.change ≡ Replaces (Some c) level → span s c.from.place c.from.len ≡ Some bytes → length bytes ≡ c.from.len → span after.shared.storage c.to (length bytes) ≡ Some bytes
    found c change there long =
        let fits = subst (λ (c : TaskChange). FitsChange c before) change all.fits in
        let placed = fits.copy in
        let some = placed.some in
        let to = c.to in
        let n = c.from.len in
        let ends = placed_ends s n to placed.place in
        let low : to < 2 ^ 24 = omega (arith, ends, some) in
        let has = has_copy s slot c level bytes ok.storage placed fits.begins there long in
        let made = all.answered.made in
        let done = done_of before after all in
        let is_made = xctl_made before after all level (Some c) change in
        let area_made : area_at made.shared.storage to ≡ Some (area_from to n (system_owner slot)) = ap (λ (t : Storage). area_at t to) is_made ∙ has.area in
        let area_done : area_at done to ≡ Some (area_from to n (system_owner slot)) = area_of_areas done made.shared.storage to (done_areas before after all) ∙ area_made in
        let gone = xctl_storage before after all level (Some c) change goes in
        let area_after : area_at (with_areas_kept (starts_elsewhere (address_in old)) done) to ≡ Some (area_from to n (system_owner slot)) =
        area_kept_any done (starts_elsewhere (address_in old)) to (area_from to n (system_owner slot)) area_done (kept to n placed.place some) in
        span_from after.shared.storage to (length bytes) bytes low refl (λ k less.
        let within : k < n = omega (arith, less, long) in
        let at : address_after to k ≡ to + k = omega (arith, ends, within) in
        rw at
        (ap (λ (t : Storage). byte_at t (to + k)) gone
        ∙ freed_stays done (starts_elsewhere (address_in old)) to (area_from to n (system_owner slot)) (to + k) (ordered_of before after all ok) area_after (omega arith) (omega (arith, within))
        ∙ absent_left before after all s (to + k) ok none (λ x e. e) (omega (arith, ends, within)) (fresh_absent s n to (to + k) placed.place (omega arith) (omega (arith, within)))
        ∙ ap (λ (t : Storage). byte_at t (to + k)) is_made ∙ has.there k within))

    by_copying : (c : Option Copying) → all.met.change ≡ Replaces c level → level.commarea ≡ copy_of c → commarea_of s all.met.call ≡ option_map (λ (copying : Copying). copying.from) c → FindsCommarea after.shared.storage after.task bytes
    by_copying c change given from = elim (passed_cases s all.met.call bytes passed) [
      | inl nothing ↦ by_none c change given (sym from ∙ nothing.1) nothing.0
      | inr some ↦ by_some c change given some.0 some.1 (sym from ∙ some.1.commarea)
    ]
      where
        by_none : (c : Option Copying) → all.met.change ≡ Replaces c level → level.commarea ≡ copy_of c → option_map (λ (copying : Copying). copying.from) c ≡ None → bytes ≡ [] → FindsCommarea after.shared.storage after.task bytes
        by_none None change given without empty =
            rw empty (finds before after all level all.met.committed.task.eib [] (xctl_entry level all.met.committed after goes) calen (cap None change) (rw given (omega arith)) (rw given refl) refl (λ e. rw given refl))
        by_none (Some c) change given without empty = cc

        by_some : (c : Option Copying) → all.met.change ≡ Replaces c level → level.commarea ≡ copy_of c → (piece : StorageSpan) → IsPassed s all.met.call bytes piece
            → option_map (λ (copying : Copying). copying.from) c ≡ Some piece → FindsCommarea after.shared.storage after.task bytes
        by_some None change given piece it is = cc
        by_some (Some c) change given piece it is =
            let same : c.from ≡ piece = same_Some c.from piece is in
            let there : span s c.from.place c.from.len ≡ Some bytes = rw same it.there in
            let long : length bytes ≡ c.from.len = rw same it.long in
            let some : 0 < c.from.len = rw same it.some in
            let placed = (subst (λ (c : TaskChange). FitsChange c before) change all.fits).copy in
            let ends = placed_ends s c.from.len c.to placed.place in
            finds before after all level all.met.committed.task.eib bytes (xctl_entry level all.met.committed after goes) calen (cap (Some c) change) (rw given (omega (arith, ends)))
            (rw given (sym long)) (rw given (found c change there long)) (λ e. absurd (omega (arith, some, long, ap length e)))

-- ---- either
-- a verdict that LINK's row gives, and one of XCTL's
meets_enters : (met normal : Condition) (outputs : List Output) (change : TaskChange) (level : NewLevel) → Meets met outputs change ≡ Meets normal [] (Enters level) → (outputs ≡ []) × (change ≡ Enters level)
meets_enters met _ outputs change level e = (cc, cc)

meets_replaces : (met normal : Condition) (outputs : List Output) (change : TaskChange) (copying : Option Copying) (level : NewLevel) → Meets met outputs change ≡ Meets normal [] (Replaces copying level)
    → (outputs ≡ []) × (change ≡ Replaces copying level)
meets_replaces met _ outputs change copying level e = (cc, cc)

same_enters : (change : TaskChange) (level own : NewLevel) → change ≡ Enters level → change ≡ Enters own → own ≡ level
same_enters change level own e f = let both : Enters own ≡ Enters level = sym f ∙ e in cc

same_replaces : (change : TaskChange) (one two : Option Copying) (level own : NewLevel) → change ≡ Replaces one level → change ≡ Replaces two own → (two ≡ one) × (own ≡ level)
same_replaces change one two level own e f = let both : Replaces two own ≡ Replaces one level = sym f ∙ e in (cc, cc)

not_both : {P : Type 0} (change : TaskChange) (copying : Option Copying) (level own : NewLevel) → change ≡ Enters level → change ≡ Replaces copying own → P
not_both change copying level own e f = let never : Enters level ≡ Replaces copying own = sym e ∙ f in cc

begins_so : (call : Call) (condition : Condition) (change : TaskChange) (committed after : TaskContext) (outputs : List Output) → HasEntered call condition change committed after
    → passes begins (Meets condition outputs change) ≡ true
unfolding passes begins
begins_so call condition change committed after outputs it = elim it.begins [
  | inl link ↦ rw (link.0) refl
  | inr xctl ↦ rw (xctl.0.is) refl
]

entered_so : HalfTurnsKeep → (before after : TaskContext) (all : AllInStorage turn.Entered Normal before after) (bytes : List ℕ) → IsSoundContext before
    → passed_by before.shared.storage all.met.call ≡ Some bytes → IsCommareaApart all.met.call.command before.task.eib all.met.call before.shared.storage
    → HalfTurn before turn.Entered after → FindsCommarea after.shared.storage after.task bytes
entered_so keeps before after all bytes ok passed apart half =
    let met = all.met in
    let how = entered met.call met.condition met.change before met.committed after met.goes in
    let calen = entered_calen met.call met.condition met.change before met.committed after how in
    elim (judged_begins met.call before (Meets met.condition met.outputs met.change) met.judged (begins_so met.call met.condition met.change met.committed after met.outputs how)) [
      | inl link ↦ by_link how.level calen how.begins link.0 link.1
      | inr xctl ↦ by_xctl how.level calen how.begins xctl.1
    ]
  where
    Begins : NewLevel → Type 0
    Begins level = ((all.met.change ≡ Enters level) × (after ≡ enter_level level all.met.committed)) ⊎ (IsReplacing all.met.change level × (after ≡ replace_level level all.met.committed))

    area : (level : NewLevel) → after.task.levels.current ≡ entry_level level all.met.committed.task.eib → IsAreaOf after.shared.storage before.terminal_entry.slot level.stg level.loaded.stg_len
    area level is = entry_area keeps before after level all.met.committed.task.eib ok half is

    by_link : (level : NewLevel) → (report_of all.met.call all.met.condition all.met.change before).calen ≡ Some after.task.levels.current.calen → Begins level → all.met.call.command ≡ command.Link
        → IsLink before.shared.storage all.met.call (Meets all.met.condition all.met.outputs all.met.change) → FindsCommarea after.shared.storage after.task bytes
    by_link level calen (inl begun) linked link =
        let parts = meets_enters all.met.condition Normal all.met.outputs all.met.change (new_level link.called (commarea_of before.shared.storage all.met.call) link.stg) link.is in
        let same : new_level link.called (commarea_of before.shared.storage all.met.call) link.stg ≡ level = same_enters all.met.change level _ begun.0 parts.1 in
        link_finds before after all level bytes ok linked passed apart parts.0 begun.0 (sym (ap (λ (l : NewLevel). l.commarea) same)) begun.1
        (area level (link_entry level all.met.committed after begun.1)) calen
    by_link level calen (inr begun) linked link =
        let parts = meets_enters all.met.condition Normal all.met.outputs all.met.change (new_level link.called (commarea_of before.shared.storage all.met.call) link.stg) link.is in
        not_both all.met.change begun.0.copying _ level parts.1 begun.0.is

    by_xctl : (level : NewLevel) → (report_of all.met.call all.met.condition all.met.change before).calen ≡ Some after.task.levels.current.calen → Begins level
        → IsXctl before.shared.storage all.met.call (Meets all.met.condition all.met.outputs all.met.change) → FindsCommarea after.shared.storage after.task bytes
    by_xctl level calen (inl begun) xctl =
        let parts = meets_replaces all.met.condition Normal all.met.outputs all.met.change xctl.copying (new_level xctl.called (copy_of xctl.copying) xctl.stg) xctl.is in
        not_both all.met.change xctl.copying level _ begun.0 parts.1
    by_xctl level calen (inr begun) xctl =
        let parts = meets_replaces all.met.condition Normal all.met.outputs all.met.change xctl.copying (new_level xctl.called (copy_of xctl.copying) xctl.stg) xctl.is in
        let same = same_replaces all.met.change begun.0.copying xctl.copying level (new_level xctl.called (copy_of xctl.copying) xctl.stg) begun.0.is parts.1 in
        let change : all.met.change ≡ Replaces xctl.copying level = begun.0.is ∙ ap (λ (c : Option Copying). Replaces c level) (sym same.0) in
        xctl_finds before after all level xctl.copying bytes ok passed parts.0 change (sym (ap (λ (l : NewLevel). l.commarea) same.1)) xctl.from begun.1
        (area level (xctl_entry level all.met.committed after begun.1)) calen

same_call : (r : Result Call CallFault) (one two : Call) → r ≡ Ok one → r ≡ Ok two → one ≡ two
same_call (Ok call) one two e f = let first : call ≡ one = cc in let second : call ≡ two = cc in sym first ∙ second
same_call (Err fault) one two e f = cc

pub entered_find_commareas : CallIsRead → HalfTurnsKeep → EnteredFindCommareas
entered_find_commareas law keeps before after call bytes ok apart reads passed commarea half =
    let all = all_in_storage law keeps before after turn.Entered Normal ok apart half refl in
    let same : call ≡ all.met.call = same_call (call_of before.shared.storage (argument_list before.task)) call all.met.call reads all.met.reads in
    entered_so keeps before after all bytes ok (subst (λ (c : Call). passed_by before.shared.storage c ≡ Some bytes) same passed)
    (subst (λ (c : Call). IsCommareaApart c.command before.task.eib c before.shared.storage) same commarea) half
