-- What is in storage of a command's report, after the half-turn that performed it.
use Rattle.std.proofs.Common.{◌≡◌, ℕ, ◌+◌, ◌^◌, ◌<◌, ◌≤◌, true, false, Option, Some, None, is_some, List, [], ◌∷◌, slice_index, refl, sym, ◌∙◌, ap, subst, arith}
use Rattle.std.specs.Prelude.{Ok}
use Rattle.std.specs.Int.{w16, w32, to_be_bytes}
use Rattle.cx_base.specs.declared.conditions.Condition.{Condition}
use Rattle.cx_base.specs.declared.eib.EibField.{EibField}
use Rattle.cx_base.specs.declared.eib.EibField.TheVariants.{Calen, Fn, Rcode, Resp, Rsrce}
use Rattle.cx_base.specs.Eib.{eib_field, eib_len}
use Rattle.cx_storage.specs.Address.{address_after}
use Rattle.cx_storage.specs.Storage.{Storage, after_write, area_from, byte_at, span, AreOrdered, IsSoundStorage}
use Rattle.cx_storage.specs.Facts.Areas.{area_bounds, area_span}
use Rattle.cx_storage.specs.Facts.Spans.{span_at, span_first, span_from, span_length}
use Rattle.cx_storage.specs.Facts.Writes.{span_present_after_write}
use Rattle.cx_region_state.specs.declared.report.CommandReport.{CommandReport}
use Rattle.cx_region_state.specs.declared.outputs.Output.{Output}
use Rattle.cx_region_state.specs.Report.{resource_of, with_report, with_eib}
use Rattle.cx_region_state.specs.Call.{Call, call_of, place_of, resp_place}
use Rattle.cx_region_state.specs.Laws.Calls.{CallIsRead}
use Rattle.cx_region_state.specs.Outputs.{bytes_from, put_out, with_output}
use Rattle.cx_region_commands.specs.CommandVerdicts.{HasVerdict}
use Rattle.cx_region_commands.specs.Facts.Fits.{judged_fits}
use Rattle.cx_region_state.specs.Areas.{IsAreaOf, system_owner}
use Rattle.cx_region_state.specs.declared.replies.TurnReply.{TurnReply}
use Rattle.cx_region_state.specs.declared.replies.TurnReply.TheVariants as turn
use Rattle.cx_region_state.specs.declared.verdict.TaskChange.{TaskChange}
use Rattle.cx_region_state.specs.declared.verdict.Verdict.TheVariants.{Meets}
use Rattle.cx_region_state.specs.Parts.Fits.{FitsChange}
use Rattle.cx_region_state.specs.Replies.{is_over}
use Rattle.cx_region_state.specs.State.{TaskContext}
use Rattle.cx_region_state.specs.Verdicts.{handed_over}
use Rattle.cx_region_task.specs.Changes.{AppliesBefore, Commits, report_of, write_outputs, write_report}
use Rattle.cx_region_task.specs.Laws.HalfTurns.{HalfTurnsKeep}
use Rattle.cx_region_task.specs.Performing.{argument_list}
use Rattle.cx_region_task.specs.Facts.Met.{IsMet}
use Rattle.cx_region_task.specs.Turn.{HalfTurn}
use Rattle.cx_region_laws.specs.Laws.Bytes.{is_among}
use Rattle.cx_region_laws.specs.Laws.Reports.{AreOutputsApart, CommandsReport, HasReported, IsRespApart, IsSoundContext, condition_of, field_at, function_after}
use Rattle.cx_region_laws.proofs.AppliedLemmas.{applied_task}
use Rattle.cx_region_laws.proofs.CommandLemmas.{call_low, finished_task, resource_reported, text_same}
use Rattle.cx_region_laws.proofs.EibLemmas.{InEib, IsEibThere, answer_areas, eib_has, fields_agree, in_eib, outputs_areas, resp_leaves, resp_stands, there_write}
use Rattle.cx_region_laws.proofs.MadeLemmas.{Stays, applied_stays}
use Rattle.cx_region_laws.proofs.MetLemmas.{finished_freed, function_reported, goes_from, number_reported, replies_met}
use Rattle.cx_region_laws.proofs.StandLemmas.{puts_elsewhere}
use Rattle.cx_region_laws.proofs.StayingLemmas.{IsFreed, freed_on, freed_span, freed_was, ordered_same}
use Rattle.cx_region_laws.proofs.WrittenLemmas.{AreLow, resource_fits, resp_low}

pub some_of : {A : Type 0} (o : Option A) → is_some o ≡ true → (x : A) × (o ≡ Some x)
some_of None e = cc
some_of (Some x) e = (x, refl)

-- ---- the EIB's bytes
pub eib_there : (s : Storage) (slot eib : ℕ) → IsSoundStorage s → IsAreaOf s slot eib eib_len → IsEibThere s eib
eib_there s slot eib ok there x low high = span_first s x 1 (area_span s eib (area_from eib eib_len (system_owner slot)) x 1 ok there low (omega (arith, high))) (omega arith)

pub eib_low : (s : Storage) (slot eib : ℕ) → IsSoundStorage s → IsAreaOf s slot eib eib_len → eib + eib_len ≤ 2 ^ 24
eib_low s slot eib ok there = (area_bounds s eib (area_from eib eib_len (system_owner slot)) ok there).2

pub stay_there : (s t : Storage) (eib : ℕ) → eib + eib_len ≤ 2 ^ 24 → Stays s t → IsEibThere s eib → IsEibThere t eib
stay_there s t eib ends stays there x low high =
    let it = some_of (byte_at s x) (there x low high) in
    ap is_some (stays.bytes x it.0 (omega (arith, ends, high)) it.1)

puts_there : (s : Storage) (call : Call) (text : List ℕ) (outputs : List Output) (eib : ℕ) → IsEibThere s eib → IsEibThere (put_out s call text outputs) eib
unfolding put_out
puts_there s call text [] eib there = there
puts_there s call text (output ∷ rest) eib there =
    puts_there (with_output s (place_of call output.option) (bytes_from text output.source)) call text rest eib (one (place_of call output.option))
  where
    one : (place : Option ℕ) → IsEibThere (with_output s place (bytes_from text output.source)) eib
    one None = there
    one (Some place) = there_write s eib place (bytes_from text output.source) there

-- ---- storage when the outputs are written, and when the report is
abbrev pub put_from : TaskContext → Call → List Output → TaskChange → TaskContext → Storage
put_from before call outputs change made = put_out made.shared.storage call (handed_over change before) outputs

abbrev pub answered_from : TaskContext → Call → Condition → List Output → TaskChange → TaskContext → Storage
answered_from before call condition outputs change made =
    with_report (put_from before call outputs change made) before.task.eib call (report_of call condition change before)

-- a storage that comes from it
pub record IsAnswered (before : TaskContext) (call : Call) (condition : Condition) (outputs : List Output) (change : TaskChange) (t : Storage) : Type 0 where
  pub made : TaskContext
  pub applied : AppliesBefore change before made
  pub freed : IsFreed (answered_from before call condition outputs change made) t

pub commits_answered : (before : TaskContext) (call : Call) (condition : Condition) (outputs : List Output) (change : TaskChange) (committed : TaskContext) → Commits call condition outputs change before committed
    → IsAnswered before call condition outputs change committed.shared.storage
unfolding write_outputs write_report
commits_answered before call condition outputs change committed commits =
    let made = commits.made in
    let answer = report_of call condition change before in
    let written = write_report call answer (write_outputs call outputs change made) in
    let task = applied_task change before made commits.applied in
    let same : written.shared.storage ≡ answered_from before call condition outputs change made =
    ap (λ (text : List ℕ). with_report (put_out made.shared.storage call text outputs) made.task.eib call answer) (text_same change before made commits.applied)
    ∙ ap (λ (eib : ℕ). with_report (put_from before call outputs change made) eib call answer) task.eib in
    let freed : IsFreed written.shared.storage committed.shared.storage = subst (λ (r : TaskContext). IsFreed written.shared.storage r.shared.storage) (sym commits.committed) (finished_freed change written) in
    record { made = made; applied = commits.applied; freed = subst (λ (s : Storage). IsFreed s committed.shared.storage) same freed }

pub commits_eib : (before : TaskContext) (call : Call) (condition : Condition) (outputs : List Output) (change : TaskChange) (committed : TaskContext) → Commits call condition outputs change before committed
    → committed.task.eib ≡ before.task.eib
unfolding write_outputs write_report
commits_eib before call condition outputs change committed commits =
    let made = commits.made in
    let written = write_report call (report_of call condition change before) (write_outputs call outputs change made) in
    ap (λ (r : TaskContext). r.task.eib) commits.committed ∙ (finished_task change written).eib ∙ (applied_task change before made commits.applied).eib

pub commits_callers : (before : TaskContext) (call : Call) (condition : Condition) (outputs : List Output) (change : TaskChange) (committed : TaskContext) → Commits call condition outputs change before committed
    → committed.task.levels.callers ≡ before.task.levels.callers
unfolding write_outputs write_report
commits_callers before call condition outputs change committed commits =
    let made = commits.made in
    let written = write_report call (report_of call condition change before) (write_outputs call outputs change made) in
    ap (λ (r : TaskContext). r.task.levels.callers) commits.committed ∙ (finished_task change written).callers ∙ (applied_task change before made commits.applied).callers

pub commits_stg : (before : TaskContext) (call : Call) (condition : Condition) (outputs : List Output) (change : TaskChange) (committed : TaskContext) → Commits call condition outputs change before committed
    → committed.task.levels.current.stg ≡ before.task.levels.current.stg
unfolding write_outputs write_report
commits_stg before call condition outputs change committed commits =
    let made = commits.made in
    let written = write_report call (report_of call condition change before) (write_outputs call outputs change made) in
    ap (λ (r : TaskContext). r.task.levels.current.stg) commits.committed ∙ (finished_task change written).stg ∙ (applied_task change before made commits.applied).stg

pub answered_on : (before : TaskContext) (call : Call) (condition : Condition) (outputs : List Output) (change : TaskChange) (s t : Storage) → IsAnswered before call condition outputs change s
    → IsFreed s t → IsAnswered before call condition outputs change t
answered_on before call condition outputs change s t it freed =
    record { made = it.made; applied = it.applied; freed = freed_on (answered_from before call condition outputs change it.made) s t it.freed freed }

-- ---- what is in such a storage
pub record StoresReport (before : TaskContext) (call : Call) (condition : Condition) (outputs : List Output) (change : TaskChange) (t : Storage) : Type 0 where
  pub fn : field_at t before.task.eib Fn ≡ Some (to_be_bytes w16 (report_of call condition change before).function)
  pub rcode : field_at t before.task.eib Rcode ≡ Some ((report_of call condition change before).condition ∷ 0 ∷ 0 ∷ 0 ∷ 0 ∷ 0 ∷ [])
  pub resp : field_at t before.task.eib Resp ≡ Some (to_be_bytes w32 (report_of call condition change before).condition)
  pub rsrce : (name : List ℕ) → resource_of before.shared.storage call ≡ Some name → field_at t before.task.eib Rsrce ≡ Some name
  pub unnamed : resource_of before.shared.storage call ≡ None → AreOutputsApart before.task.eib call (handed_over change before) outputs
      → field_at t before.task.eib Rsrce ≡ field_at before.shared.storage before.task.eib Rsrce
  pub word : (place : ℕ) → resp_place call ≡ Some place → is_some (span t place 4) ≡ true → span t place 4 ≡ Some (to_be_bytes w32 (report_of call condition change before).condition)

pub record InStorage (before : TaskContext) (call : Call) (condition : Condition) (outputs : List Output) (change : TaskChange) (t : Storage) : Type 0 where
  pub report : StoresReport before call condition outputs change t
  pub calen : (n : ℕ) → (report_of call condition change before).calen ≡ Some n → field_at t before.task.eib Calen ≡ Some (to_be_bytes w16 n)

pub low_places : CallIsRead → (before : TaskContext) (call : Call) → IsSoundContext before → call_of before.shared.storage (argument_list before.task) ≡ Ok call → AreLow call.places
low_places law before call ok reads = call_low before.shared.storage (argument_list before.task) call ((law before.shared.storage (argument_list before.task) call ok.storage (omega arith)).0 reads)

pub in_storage : (before : TaskContext) (call : Call) (condition : Condition) (outputs : List Output) (change : TaskChange) (t : Storage) (slot : ℕ) → IsSoundContext before → AreLow call.places
    → ((x : ℕ) → is_among x (Some before.task.eib) eib_len ≡ true → is_among x (resp_place call) 4 ≡ false) → FitsChange change before
    → IsAnswered before call condition outputs change t → IsAreaOf t slot before.task.eib eib_len → InStorage before call condition outputs change t
unfolding with_report
in_storage before call condition outputs change t slot ok low apart fits it area =
    record {
      report = record {
        fn = left Fn (omega arith) (omega arith) ∙ inside.fn;
        rcode = left Rcode (omega arith) (omega arith) ∙ inside.rcode;
        resp = left Resp (omega arith) (omega arith) ∙ inside.resp;
        rsrce = λ name is. left Rsrce (omega arith) (omega arith) ∙ inside.rsrce name (resource_reported call condition change before ∙ is);
        unnamed = λ none outputs_apart.
            left Rsrce (omega arith) (omega arith) ∙ inside.unnamed (resource_reported call condition change before ∙ none)
            ∙ fields_agree before.shared.storage put eib Rsrce ends (omega arith) (λ x from to.
            let b = some_of (byte_at before.shared.storage x) (there x from to) in
            puts_elsewhere made.shared.storage call (handed_over change before) outputs x low (outputs_apart x (eib_has eib x ends from to))
            ∙ stays.bytes x b.0 (omega (arith, ends, to)) b.1 ∙ sym b.1);
        word = word_at_place;
      };
      calen = λ n is. left Calen (omega arith) (omega arith) ∙ inside.calen n is;
    }
  where
    eib : ℕ
    eib = before.task.eib

    answer : CommandReport
    answer = report_of call condition change before

    made : TaskContext
    made = it.made

    put : Storage
    put = put_from before call outputs change made

    reported : Storage
    reported = with_eib put eib answer

    done : Storage
    done = answered_from before call condition outputs change made

    ends : eib + eib_len ≤ 2 ^ 24
    ends = eib_low before.shared.storage before.terminal_entry.slot eib ok.storage ok.task.eib

    there : IsEibThere before.shared.storage eib
    there = eib_there before.shared.storage before.terminal_entry.slot eib ok.storage ok.task.eib

    stays : Stays before.shared.storage made.shared.storage
    stays = applied_stays change before made ok.storage fits it.applied

    inside : InEib put eib answer
    inside =
        in_eib put eib answer ends
        (puts_there made.shared.storage call (handed_over change before) outputs eib (stay_there before.shared.storage made.shared.storage eib ends stays there))
        (λ bytes e. resource_fits before.shared.storage call bytes (sym (resource_reported call condition change before) ∙ e))

    ordered : AreOrdered done
    ordered = ordered_same made.shared.storage done (answer_areas put eib call answer ∙ outputs_areas made.shared.storage call (handed_over change before) outputs) stays.ordered

    left : (f : EibField) → (eib_field f).offset + (eib_field f).len ≤ eib_len → 0 < (eib_field f).len → field_at t eib f ≡ field_at reported eib f
    left f fits some =
        let at : address_after eib (eib_field f).offset ≡ eib + (eib_field f).offset = omega (arith, ends, fits, some) in
        freed_span done t eib (area_from eib eib_len (system_owner slot)) (address_after eib (eib_field f).offset) (eib_field f).len ordered it.freed area (omega (arith, at)) (omega (arith, at, fits)) ends some
        ∙ resp_leaves reported eib f (resp_place call) answer.condition ends fits (λ p e. resp_low call p low e) apart

    word_at_place : (place : ℕ) → resp_place call ≡ Some place → is_some (span t place 4) ≡ true → span t place 4 ≡ Some (to_be_bytes w32 answer.condition)
    word_at_place place is present =
        let below = resp_low call place low is in
        let seen = some_of (span t place 4) present in
        let was : span done place 4 ≡ Some seen.0 =
        span_from done place 4 seen.0 below (span_length t place 4 seen.0 seen.1) (λ k less.
        freed_was done it.freed.keeps (address_after place k) (slice_index seen.0 k) ordered
        (sym (ap (λ (l : Storage). byte_at l (address_after place k)) it.freed.is) ∙ span_at t place 4 seen.0 k below seen.1 less)) in
        let to : span done place 4 ≡ span (after_write reported place (to_be_bytes w32 answer.condition)) place 4 =
        ap (λ (o : Option ℕ). span (with_output reported o (to_be_bytes w32 answer.condition)) place 4) is in
        let had : is_some (span reported place 4) ≡ true =
        sym (span_present_after_write reported place (to_be_bytes w32 answer.condition) place 4) ∙ ap is_some (sym to ∙ was) in
        seen.1 ∙ sym was ∙ to ∙ resp_stands reported place answer.condition below had

-- ---- the half-turn
going_on : (condition : Condition) (reply : TurnReply) → condition_of reply ≡ Some condition → is_over reply ≡ false
going_on condition turn.Idle e = refl
going_on condition turn.NoSuchTerminal e = refl
going_on condition turn.AtCommand e = refl
going_on condition (turn.Performed met) e = refl
going_on condition turn.Entered e = refl
going_on condition turn.Returned e = refl
going_on condition turn.Waiting e = refl
going_on condition (turn.TookLabel met) e = refl
going_on condition (turn.TookExit code) e = refl
going_on condition (turn.Abended code) e = cc
going_on condition turn.Ended e = cc

-- the EIB's area afterwards
pub eib_area : HalfTurnsKeep → (before after : TaskContext) (reply : TurnReply) → IsSoundContext before → HalfTurn before reply after → is_over reply ≡ false
    → IsAreaOf after.shared.storage before.terminal_entry.slot after.task.eib eib_len
eib_area keeps before after reply ok half over = ((keeps before after reply ok.storage ok.programs ok.queues ok.task half).task over).eib

-- what is in storage after a half-turn that a condition was met in
pub record AllInStorage (reply : TurnReply) (condition : Condition) (before after : TaskContext) : Type 0 where
  pub met : IsMet reply before after
  pub same : met.condition ≡ condition
  pub low : AreLow met.call.places
  pub fits : FitsChange met.change before
  pub answered : IsAnswered before met.call met.condition met.outputs met.change after.shared.storage
  pub made : answered.made ≡ met.commits.made
  pub eib : after.task.eib ≡ before.task.eib
  pub stores : InStorage before met.call met.condition met.outputs met.change after.shared.storage

pub all_in_storage : CallIsRead → HalfTurnsKeep → (before after : TaskContext) (reply : TurnReply) (condition : Condition) → IsSoundContext before → IsRespApart before
    → HalfTurn before reply after → condition_of reply ≡ Some condition → AllInStorage reply condition before after
unfolding commits_answered answered_on
all_in_storage law keeps before after reply condition ok apart half given =
    let met = replies_met condition reply before after given half in
    let gone = goes_from reply met.call met.condition condition met.change before met.committed after given met.goes in
    let low = low_places law before met.call ok met.reads in
    let fits = judged_fits met.call before (Meets met.condition met.outputs met.change) ok.queues low ok.programs met.inputs met.judged in
    let eib : after.task.eib ≡ before.task.eib = gone.eib ∙ commits_eib before met.call met.condition met.outputs met.change met.committed met.commits in
    let answered = answered_on before met.call met.condition met.outputs met.change met.committed.shared.storage after.shared.storage
    (commits_answered before met.call met.condition met.outputs met.change met.committed met.commits) gone.freed in
    let area : IsAreaOf after.shared.storage before.terminal_entry.slot before.task.eib eib_len =
    subst (λ (n : ℕ). IsAreaOf after.shared.storage before.terminal_entry.slot n eib_len) eib (eib_area keeps before after reply ok half (going_on condition reply given)) in
    record {
      met = met;
      same = gone.condition condition given;
      low = low;
      fits = fits.1;
      answered = answered;
      made = refl;
      eib = eib;
      stores = in_storage before met.call met.condition met.outputs met.change after.shared.storage before.terminal_entry.slot ok low (λ x e. apart met.call x met.reads e) fits.1 answered area;
    }

pub has_reported : (reply : TurnReply) (condition : Condition) (before after : TaskContext) (call : Call) (outputs : List Output) (change : TaskChange)
    → call_of before.shared.storage (argument_list before.task) ≡ Ok call → HasVerdict call before (Meets condition outputs change)
    → (report_of call condition change before).function ≡ function_after reply call
    → StoresReport before call condition outputs change after.shared.storage → HasReported reply condition before after
unfolding resource_of
has_reported reply condition before after call outputs change reads judged function stores =
    let number = number_reported call condition change before in
    record {
      call = call;
      reads = reads;
      outputs = outputs;
      change = change;
      judged = judged;
      reports = record {
        fn = stores.fn ∙ ap (λ (n : ℕ). Some (to_be_bytes w16 n)) function;
        rcode = stores.rcode ∙ ap (λ (n : ℕ). Some (n ∷ 0 ∷ 0 ∷ 0 ∷ 0 ∷ 0 ∷ [])) number;
        resp = stores.resp ∙ ap (λ (n : ℕ). Some (to_be_bytes w32 n)) number;
        rsrce = stores.rsrce;
        word = λ place is present. stores.word place is present ∙ ap (λ (n : ℕ). Some (to_be_bytes w32 n)) number;
      };
      unnamed = stores.unnamed;
    }

pub commands_report : CallIsRead → HalfTurnsKeep → CommandsReport
commands_report law keeps before after reply condition ok apart half given =
    let all = all_in_storage law keeps before after reply condition ok apart half given in
    let met = all.met in
    let function = function_reported reply met.call met.condition met.outputs met.change before met.committed after met.judged met.goes in
    subst (λ (c : Condition). HasReported reply c before after) all.same
    (has_reported reply met.condition before after met.call met.outputs met.change met.reads met.judged function all.stores.report)
