-- What an exit that takes a command's abend leaves of the report; and EIBCALEN, where the current level changes.
use Rattle.std.proofs.Common.{◌≡◌, ℕ, ◌+◌, ◌^◌, ◌<◌, ◌≤◌, Bool, true, false, Option, Some, None, is_some, List, [], ◌∷◌, length, slice_get, refl, sym, ◌∙◌, ap, subst, arith, inl, inr}
use Rattle.std.specs.Prelude.{◌⊎◌}
use Rattle.std.specs.Option.{option_map}
use Rattle.std.specs.Int.{w16, to_be_bytes}
use Rattle.std.proofs.lemmas.Bool.{cases_Bool, lt-ltb, ltb-false, true≢false}
use Rattle.cx_base.specs.declared.conditions.Condition.{Condition}
use Rattle.cx_base.specs.declared.conditions.Condition.TheVariants.{Normal}
use Rattle.cx_base.specs.declared.eib.EibField.{EibField}
use Rattle.cx_base.specs.declared.eib.EibField.TheVariants.{Calen, Fn, Rcode, Resp, Rsrce}
use Rattle.cx_base.specs.Eib.{eib_field, eib_len}
use Rattle.cx_program.specs.declared.level.Level.{Level}
use Rattle.cx_program.specs.Levels.{Levels}
use Rattle.cx_storage.specs.Address.{address_after, distance}
use Rattle.cx_storage.specs.Storage.{Storage, area_from, areas_of, byte_at, span, with_areas_kept, IsSoundStorage}
use Rattle.cx_storage.specs.Facts.Areas.{area_of_areas}
use Rattle.cx_storage.specs.Facts.Writes.{present_after_write}
use Rattle.cx_region_state.specs.declared.outputs.Output.{Output}
use Rattle.cx_region_state.specs.Call.{Call, resp_place}
use Rattle.cx_region_state.specs.Eib.{with_calen, with_field}
use Rattle.cx_region_state.specs.Laws.Calls.{CallIsRead}
use Rattle.cx_region_commands.specs.Facts.Fits.{judged_fits}
use Rattle.cx_region_state.specs.Areas.{IsAreaOf, entry_level, system_owner}
use Rattle.cx_region_state.specs.declared.replies.TurnReply.{TurnReply}
use Rattle.cx_region_state.specs.declared.replies.TurnReply.TheVariants as turn
use Rattle.cx_region_state.specs.declared.verdict.Copying.{Copying}
use Rattle.cx_region_state.specs.declared.verdict.NewLevel.{NewLevel}
use Rattle.cx_region_state.specs.declared.verdict.TaskChange.{TaskChange}
use Rattle.cx_region_state.specs.declared.verdict.TaskChange.TheVariants.{Nothing, Before, After, Gets, Enters, Replaces, LevelEnds, TaskEnds, AbendsWith}
use Rattle.cx_region_state.specs.declared.verdict.Verdict.TheVariants.{Meets}
use Rattle.cx_region_state.specs.State.{TaskContext}
use Rattle.cx_region_task.specs.declared.continuation.Continuation.{Continuation}
use Rattle.cx_region_task.specs.declared.continuation.Continuation.TheVariants as continuation
use Rattle.cx_region_task.specs.Abends.{Abends, AbendsAt}
use Rattle.cx_region_task.specs.Decisions.{continuation_at}
use Rattle.cx_region_task.specs.Facts.Met.{IsMet}
use Rattle.cx_region_task.specs.Changes.{report_of}
use Rattle.cx_region_task.specs.Continuations.{Goes, continuation_by, enter_level, replace_level, return_to_caller, returned_to}
use Rattle.cx_region_task.specs.Laws.HalfTurns.{HalfTurnsKeep}
use Rattle.cx_region_task.specs.Turn.{HalfTurn}
use Rattle.cx_region_laws.specs.Laws.Bytes.{is_among}
use Rattle.cx_region_laws.specs.Laws.Exits.{TakesExit, is_no_stg_of}
use Rattle.cx_region_laws.specs.Laws.Reports.{CalenIsTheLevels, ExitsFindReports, HasReported, IsSoundContext, LeavesReport, changes_level, field_at}
use Rattle.cx_region_laws.proofs.EibLemmas.{IsEibThere, calen_apart, calen_areas, field_here}
use Rattle.cx_region_laws.proofs.MetLemmas.{exits_met, function_reported, is_of_levels, levels_normal}
use Rattle.cx_region_laws.proofs.ReportLemmas.{StoresReport, all_in_storage, answered_on, commits_answered, commits_callers, commits_eib, eib_area, eib_low, eib_there, has_reported, in_storage, low_places}
use Rattle.cx_region_laws.proofs.ReturnLemmas.{returns_have_callers}
use Rattle.cx_region_laws.proofs.StandLemmas.{calen_elsewhere}
use Rattle.cx_region_laws.proofs.StayingLemmas.{IsFreed, freed_span, order_of, span_agree}
use Rattle.cx_region_laws.proofs.TakenLemmas.{goes_abend, half_turns_take_exits, takes}
use Rattle.cx_region_laws.proofs.WrittenLemmas.{resp_low}

-- ---- an exit
-- storage with what ends by the exit freed, and then EIBCALEN
left_by : (abend after : TaskContext) → TakesExit abend after → Storage
left_by abend after it = with_areas_kept (is_no_stg_of it.ended) abend.shared.storage

left_freed : (abend after : TaskContext) (it : TakesExit abend after) → IsFreed abend.shared.storage (left_by abend after it)
unfolding left_by
left_freed abend after it = record { keeps = is_no_stg_of it.ended; is = refl }

left_area : (abend after : TaskContext) (it : TakesExit abend after) (slot eib : ℕ) → IsAreaOf after.shared.storage slot eib eib_len → IsAreaOf (left_by abend after it) slot eib eib_len
unfolding left_by
left_area abend after it slot eib area =
    area_of_areas (left_by abend after it) after.shared.storage eib
    (sym (ap areas_of it.storage ∙ calen_areas (left_by abend after it) abend.task.eib (Some it.level.calen))) ∙ area

exit_eib : (abend after : TaskContext) → TakesExit abend after → after.task.eib ≡ abend.task.eib
exit_eib abend after it = ap (λ (r : TaskContext). r.task.eib) it.others

-- a field but EIBCALEN
left_field : (abend after : TaskContext) (it : TakesExit abend after) (f : EibField) → abend.task.eib + eib_len ≤ 2 ^ 24 → (eib_field f).offset + (eib_field f).len ≤ eib_len → 26 ≤ (eib_field f).offset
    → field_at after.shared.storage abend.task.eib f ≡ field_at (left_by abend after it) abend.task.eib f
unfolding left_by
left_field abend after it f ends inside beyond =
    ap (λ (s : Storage). field_at s abend.task.eib f) it.storage ∙ calen_apart (left_by abend after it) abend.task.eib f (Some it.level.calen) ends inside (inr beyond)

-- RESP's word, which doesn't lie over the EIB
left_word : (abend after : TaskContext) (it : TakesExit abend after) (resp : Option ℕ) (place : ℕ) → abend.task.eib + eib_len ≤ 2 ^ 24 → place < 2 ^ 24 → resp ≡ Some place
    → ((x : ℕ) → is_among x (Some abend.task.eib) eib_len ≡ true → is_among x resp 4 ≡ false) → span after.shared.storage place 4 ≡ span (left_by abend after it) place 4
unfolding left_by
left_word abend after it resp place ends low is apart =
    ap (λ (s : Storage). span s place 4) it.storage
    ∙ span_agree (with_calen (left_by abend after it) abend.task.eib (Some it.level.calen)) (left_by abend after it) place 4 low (λ k less.
    calen_elsewhere (left_by abend after it) abend.task.eib (Some it.level.calen) (address_after place k) (omega (arith, ends)) (far k less))
  where
    far : (k : ℕ) → k < 4 → eib_len ≤ distance abend.task.eib (address_after place k)
    far k less = elim (cases_Bool (is_among (address_after place k) (Some abend.task.eib) eib_len)) [
      | inl inside ↦
          let off : is_among (address_after place k) resp 4 ≡ false = apart (address_after place k) inside in
          let on : is_among (address_after place k) (Some place) 4 ≡ true = lt-ltb _ _ (omega (arith, low, less)) in
          absurd (true≢false (sym on ∙ ap (λ (o : Option ℕ). is_among (address_after place k) o 4) (sym is) ∙ off))
      | inr outside ↦ ltb-false _ _ outside
    ]

-- ---- an exit takes a command's abend
refused_leaves : (before after : TaskContext) (slot : ℕ) → IsSoundStorage before.shared.storage → IsAreaOf before.shared.storage slot before.task.eib eib_len → TakesExit before after
    → IsAreaOf after.shared.storage slot before.task.eib eib_len → LeavesReport before.task.eib before.shared.storage after.shared.storage
refused_leaves before after slot ok own it area =
    record {
      fn = left Fn (omega arith) (omega arith) (omega arith);
      rcode = left Rcode (omega arith) (omega arith) (omega arith);
      resp = left Resp (omega arith) (omega arith) (omega arith);
      rsrce = left Rsrce (omega arith) (omega arith) (omega arith);
    }
  where
    eib : ℕ
    eib = before.task.eib

    ends : eib + eib_len ≤ 2 ^ 24
    ends = eib_low before.shared.storage slot eib ok own

    left : (f : EibField) → (eib_field f).offset + (eib_field f).len ≤ eib_len → 26 ≤ (eib_field f).offset → 0 < (eib_field f).len
        → field_at after.shared.storage eib f ≡ field_at before.shared.storage eib f
    left f fits beyond some =
        let at : address_after eib (eib_field f).offset ≡ eib + (eib_field f).offset = omega (arith, ends, fits, some) in
        left_field before after it f ends fits beyond
        ∙ freed_span before.shared.storage (left_by before after it) eib (area_from eib eib_len (system_owner slot)) (address_after eib (eib_field f).offset) (eib_field f).len (order_of before.shared.storage ok)
        (left_freed before after it) (left_area before after it slot eib area) (omega (arith, at)) (omega (arith, at, fits)) ends some

-- what is in storage of the report is there after the exit
after_exit : (before after committed : TaskContext) (taken : TakesExit committed after) (call : Call) (condition : Condition) (outputs : List Output) (change : TaskChange) → committed.task.eib ≡ before.task.eib
    → before.task.eib + eib_len ≤ 2 ^ 24 → ((p : ℕ) → resp_place call ≡ Some p → p < 2 ^ 24) → ((x : ℕ) → is_among x (Some before.task.eib) eib_len ≡ true → is_among x (resp_place call) 4 ≡ false)
    → StoresReport before call condition outputs change (left_by committed after taken) → StoresReport before call condition outputs change after.shared.storage
after_exit before after committed taken call condition outputs change same ends low apart stores =
    record {
      fn = left Fn (omega arith) (omega arith) ∙ stores.fn;
      rcode = left Rcode (omega arith) (omega arith) ∙ stores.rcode;
      resp = left Resp (omega arith) (omega arith) ∙ stores.resp;
      rsrce = λ name is. left Rsrce (omega arith) (omega arith) ∙ stores.rsrce name is;
      unnamed = λ none off. left Rsrce (omega arith) (omega arith) ∙ stores.unnamed none off;
      word = λ place is present.
          let word = left_word committed after taken (resp_place call) place (rw same ends) (low place is) is (rw same apart) in
          word ∙ stores.word place is (sym (ap is_some word) ∙ present);
    }
  where
    left : (f : EibField) → (eib_field f).offset + (eib_field f).len ≤ eib_len → 26 ≤ (eib_field f).offset
        → field_at after.shared.storage before.task.eib f ≡ field_at (left_by committed after taken) before.task.eib f
    left f fits beyond =
        subst (λ (eib : ℕ). field_at after.shared.storage eib f ≡ field_at (left_by committed after taken) eib f) same (left_field committed after taken f (rw same ends) fits beyond)

pub exits_find_reports : CallIsRead → HalfTurnsKeep → ExitsFindReports
exits_find_reports law keeps before after code ok apart due half = elim (exits_met code before after due half) [
  | inl refused ↦
      let taken = takes refused.code false code before after refused.abends in
      inl (refused_leaves before after before.terminal_entry.slot ok.storage ok.task.eib taken (area before taken refl))
  | inr met ↦ inr (record { condition = met.condition; reports = reported met })
]
  where
    area : (abend : TaskContext) → TakesExit abend after → abend.task.eib ≡ before.task.eib → IsAreaOf after.shared.storage before.terminal_entry.slot before.task.eib eib_len
    area abend taken same =
        subst (λ (n : ℕ). IsAreaOf after.shared.storage before.terminal_entry.slot n eib_len) (exit_eib abend after taken ∙ same) (eib_area keeps before after (turn.TookExit code) ok half refl)

    reported : (met : IsMet (turn.TookExit code) before after) → HasReported (turn.TookExit code) met.condition before after
    reported met =
        let committed = met.committed in
        let taken = (goes_abend (continuation_at met.call met.condition met.change before) met.condition code committed after met.goes).1 in
        let same = commits_eib before met.call met.condition met.outputs met.change committed met.commits in
        let low = low_places law before met.call ok met.reads in
        let fits = judged_fits met.call before (Meets met.condition met.outputs met.change) ok.queues low ok.programs met.inputs met.judged in
        let t = left_by committed after taken in
        let answered = answered_on before met.call met.condition met.outputs met.change committed.shared.storage t
        (commits_answered before met.call met.condition met.outputs met.change committed met.commits) (left_freed committed after taken) in
        let off = λ (x : ℕ) (e : is_among x (Some before.task.eib) eib_len ≡ true). apart met.call x met.reads e in
        let ends = eib_low before.shared.storage before.terminal_entry.slot before.task.eib ok.storage ok.task.eib in
        let stores = in_storage before met.call met.condition met.outputs met.change t before.terminal_entry.slot ok low off fits.1 answered
        (left_area committed after taken before.terminal_entry.slot before.task.eib (area committed taken same)) in
        has_reported (turn.TookExit code) met.condition before after met.call met.outputs met.change met.reads met.judged
        (function_reported (turn.TookExit code) met.call met.condition met.outputs met.change before committed after met.judged met.goes)
        (after_exit before after committed taken met.call met.condition met.outputs met.change same ends (λ p e. resp_low met.call p low e) off stores.report)

-- ---- EIBCALEN
-- the change with which a level begins, or ends
enters_change : (change : TaskChange) (level : NewLevel) → continuation_by change ≡ continuation.Enters level → change ≡ Enters level
enters_change Nothing level e = cc
enters_change (Before it) level e = cc
enters_change (After it) level e = cc
enters_change (Gets got) level e = cc
enters_change (Enters own) level e = let same : own ≡ level = cc in ap Enters same
enters_change (Replaces copying own) level e = cc
enters_change LevelEnds level e = cc
enters_change (TaskEnds next) level e = cc
enters_change (AbendsWith code cancel) level e = cc

pub record IsReplacing (change : TaskChange) (level : NewLevel) : Type 0 where
  pub copying : Option Copying
  pub is : change ≡ Replaces copying level

replaces_change : (change : TaskChange) (level : NewLevel) → continuation_by change ≡ continuation.Replaces level → IsReplacing change level
replaces_change Nothing level e = cc
replaces_change (Before it) level e = cc
replaces_change (After it) level e = cc
replaces_change (Gets got) level e = cc
replaces_change (Enters own) level e = cc
replaces_change (Replaces copying own) level e = let same : own ≡ level = cc in record { copying = copying; is = ap (Replaces copying) same }
replaces_change LevelEnds level e = cc
replaces_change (TaskEnds next) level e = cc
replaces_change (AbendsWith code cancel) level e = cc

ends_change : (change : TaskChange) → continuation_by change ≡ continuation.LevelEnds → change ≡ LevelEnds
ends_change Nothing e = cc
ends_change (Before it) e = cc
ends_change (After it) e = cc
ends_change (Gets got) e = cc
ends_change (Enters own) e = cc
ends_change (Replaces copying own) e = cc
ends_change LevelEnds e = refl
ends_change (TaskEnds next) e = cc
ends_change (AbendsWith code cancel) e = cc

-- an exit takes an abend, or the task ends by it
is_exit_or_end : TurnReply → Bool
is_exit_or_end (turn.TookExit code) = true
is_exit_or_end (turn.Abended code) = true
is_exit_or_end _ = false

-- how a level begins
pub record HasEntered (call : Call) (condition : Condition) (change : TaskChange) (committed after : TaskContext) : Type 0 where
  pub normal : condition ≡ Normal
  pub level : NewLevel
  pub begins : ((change ≡ Enters level) × (after ≡ enter_level level committed)) ⊎ (IsReplacing change level × (after ≡ replace_level level committed))

not_abends : {P : Type 0} (code : List ℕ) (cancel : Bool) (reply : TurnReply) (before after : TaskContext) → is_exit_or_end reply ≡ false → Abends code cancel before reply after → P
unfolding AbendsAt is_exit_or_end
not_abends {P} code cancel reply before after no_exit it = go it.exit it.ends
  where
    go : (o : Option ℕ) → AbendsAt o code before reply after → P
    go None over = absurd (true≢false (sym (ap is_exit_or_end over.0) ∙ no_exit))
    go (Some index) over = absurd (true≢false (sym (ap is_exit_or_end over.0) ∙ no_exit))

pub entered : (call : Call) (condition : Condition) (change : TaskChange) (before committed after : TaskContext)
    → Goes (continuation_at call condition change before) condition committed turn.Entered after → HasEntered call condition change committed after
unfolding Goes is_of_levels is_exit_or_end
entered call condition change before committed after goes = go (continuation_at call condition change before) refl goes
  where
    go : (gone : Continuation) → continuation_at call condition change before ≡ gone → Goes gone condition committed turn.Entered after → HasEntered call condition change committed after
    go continuation.GoesOn is it = let never : turn.Entered ≡ turn.Performed condition = it.0 in cc
    go (continuation.TakesLabel label) is it = let never : turn.Entered ≡ turn.TookLabel condition = it.0 in cc
    go continuation.Waits is it = let never : turn.Entered ≡ turn.Waiting = it.0 in cc
    go (continuation.Abends code cancel) is it = not_abends code cancel turn.Entered committed after refl it
    go (continuation.Enters level) is it =
        let way = levels_normal call condition change before _ is refl in
        record { normal = way.0; level = level; begins = inl (enters_change change level way.1, it.1) }
    go (continuation.Replaces level) is it =
        let way = levels_normal call condition change before _ is refl in
        record { normal = way.0; level = level; begins = inr (replaces_change change level way.1, it.1) }
    go continuation.LevelEnds is it = let never : turn.Entered ≡ turn.Returned = it.0 in cc
    go continuation.TaskEnds is it = let never : turn.Entered ≡ turn.Ended = it.0 in cc

returned : (call : Call) (condition : Condition) (change : TaskChange) (before committed after : TaskContext)
    → Goes (continuation_at call condition change before) condition committed turn.Returned after → (change ≡ LevelEnds) × (after ≡ return_to_caller committed)
unfolding Goes is_of_levels is_exit_or_end
returned call condition change before committed after goes = go (continuation_at call condition change before) refl goes
  where
    go : (gone : Continuation) → continuation_at call condition change before ≡ gone → Goes gone condition committed turn.Returned after → (change ≡ LevelEnds) × (after ≡ return_to_caller committed)
    go continuation.GoesOn is it = let never : turn.Returned ≡ turn.Performed condition = it.0 in cc
    go (continuation.TakesLabel label) is it = let never : turn.Returned ≡ turn.TookLabel condition = it.0 in cc
    go continuation.Waits is it = let never : turn.Returned ≡ turn.Waiting = it.0 in cc
    go (continuation.Abends code cancel) is it = not_abends code cancel turn.Returned committed after refl it
    go (continuation.Enters level) is it = let never : turn.Returned ≡ turn.Entered = it.0 in cc
    go (continuation.Replaces level) is it = let never : turn.Returned ≡ turn.Entered = it.0 in cc
    go continuation.LevelEnds is it = (ends_change change (levels_normal call condition change before _ is refl).1, it.1)
    go continuation.TaskEnds is it = let never : turn.Returned ≡ turn.Ended = it.0 in cc

-- the level that begins, or is the current one again, and the EIBCALEN of the report
pub entered_calen : (call : Call) (condition : Condition) (change : TaskChange) (before committed after : TaskContext) → HasEntered call condition change committed after
    → (report_of call condition change before).calen ≡ Some after.task.levels.current.calen
unfolding report_of enter_level replace_level entry_level
entered_calen call condition change before committed after it = elim it.begins [
  | inl link ↦ rw (link.0, link.1) refl
  | inr xctl ↦ rw (xctl.0.is, xctl.1) refl
]

returned_calen : (call : Call) (condition : Condition) (change : TaskChange) (before committed after : TaskContext) → change ≡ LevelEnds → after ≡ return_to_caller committed
    → committed.task.levels.callers ≡ before.task.levels.callers → 0 < length before.task.levels.callers
    → (report_of call condition change before).calen ≡ Some after.task.levels.current.calen
unfolding report_of return_to_caller
returned_calen call condition change before committed after is goes same some =
    rw (is, goes) (ap (λ (callers : List Level). option_map (λ (caller : Level). caller.calen) (slice_get callers 0)) (sym same) ∙ go committed.task.levels.callers (subst (λ (l : List Level). 0 < length l) (sym same) some))
  where
    go : (callers : List Level) → 0 < length callers → option_map (λ (caller : Level). caller.calen) (slice_get callers 0) ≡ Some (returned_to callers committed).task.levels.current.calen
    go [] some = absurd (omega (arith, some))
    go (caller ∷ callers) some = refl

calen_present : (s : Storage) (eib n x : ℕ) → is_some (byte_at (with_calen s eib (Some n)) x) ≡ is_some (byte_at s x)
unfolding with_calen with_field
calen_present s eib n x = present_after_write s (address_after eib 24) (to_be_bytes w16 n) x

calen_stands : (s : Storage) (eib n : ℕ) → eib + eib_len ≤ 2 ^ 24 → IsEibThere s eib → field_at (with_calen s eib (Some n)) eib Calen ≡ Some (to_be_bytes w16 n)
unfolding with_calen
calen_stands s eib n ends there = field_here s eib Calen (to_be_bytes w16 n) ends there (omega arith) (omega arith) refl

-- after an exit
exit_calen : HalfTurnsKeep → (before after : TaskContext) (code : List ℕ) → IsSoundContext before → IsSoundStorage after.shared.storage → HalfTurn before (turn.TookExit code) after
    → field_at after.shared.storage after.task.eib Calen ≡ Some (to_be_bytes w16 after.task.levels.current.calen)
unfolding left_by
exit_calen keeps before after code ok sound half =
    let came = half_turns_take_exits code before after half in
    let taken = came.takes in
    let area = eib_area keeps before after (turn.TookExit code) ok half refl in
    let slot = before.terminal_entry.slot in
    let eib = exit_eib came.abend after taken in
    let ends = eib_low after.shared.storage slot after.task.eib sound area in
    let there : IsEibThere after.shared.storage after.task.eib = eib_there after.shared.storage slot after.task.eib sound area in
    let level : after.task.levels.current.calen ≡ taken.level.calen = ap (λ (l : Levels). l.current.calen) taken.levels in
    let written = calen_stands (left_by came.abend after taken) after.task.eib taken.level.calen ends (λ x low high.
    sym (calen_present (left_by came.abend after taken) after.task.eib taken.level.calen x) ∙ sym (ap (λ (s : Storage). is_some (byte_at s x)) (taken.storage ∙ ap (λ (n : ℕ). with_calen (left_by came.abend after taken) n (Some taken.level.calen)) (sym eib))) ∙ there x low high) in
    ap (λ (s : Storage). field_at s after.task.eib Calen) (taken.storage ∙ ap (λ (n : ℕ). with_calen (left_by came.abend after taken) n (Some taken.level.calen)) (sym eib))
    ∙ written ∙ ap (λ (n : ℕ). Some (to_be_bytes w16 n)) (sym level)

pub calen_is_the_levels : CallIsRead → HalfTurnsKeep → CalenIsTheLevels
calen_is_the_levels law keeps before after reply ok sound apart half changes = by_reply reply half changes
  where
    by_reply : (reply : TurnReply) → HalfTurn before reply after → changes_level reply ≡ true
        → field_at after.shared.storage after.task.eib Calen ≡ Some (to_be_bytes w16 after.task.levels.current.calen)
    by_reply turn.Idle half changes = cc
    by_reply turn.NoSuchTerminal half changes = cc
    by_reply turn.AtCommand half changes = cc
    by_reply (turn.Performed met) half changes = cc
    by_reply turn.Entered half changes =
        let all = all_in_storage law keeps before after turn.Entered Normal ok apart half refl in
        let met = all.met in
        let calen = entered_calen met.call met.condition met.change before met.committed after (entered met.call met.condition met.change before met.committed after met.goes) in
        ap (λ (eib : ℕ). field_at after.shared.storage eib Calen) all.eib ∙ all.stores.calen after.task.levels.current.calen calen
    by_reply turn.Returned half changes =
        let all = all_in_storage law keeps before after turn.Returned Normal ok apart half refl in
        let met = all.met in
        let way = returned met.call met.condition met.change before met.committed after met.goes in
        let callers = commits_callers before met.call met.condition met.outputs met.change met.committed met.commits in
        let calen = returned_calen met.call met.condition met.change before met.committed after way.0 way.1 callers (returns_have_callers before after half) in
        ap (λ (eib : ℕ). field_at after.shared.storage eib Calen) all.eib ∙ all.stores.calen after.task.levels.current.calen calen
    by_reply turn.Waiting half changes = cc
    by_reply (turn.TookLabel met) half changes = cc
    by_reply (turn.TookExit code) half changes = exit_calen keeps before after code ok sound half
    by_reply (turn.Abended code) half changes = cc
    by_reply turn.Ended half changes = cc
