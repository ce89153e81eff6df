-- Where a program goes on after its command, and that the command's outputs are there.
use Rattle.std.proofs.Common.{◌≡◌, ℕ, ◌^◌, ◌<◌, Bool, true, false, Option, Some, None, List, [], ◌∷◌, ◌++◌, length, slice_index, refl, sym, ◌∙◌, ap, subst, arith, inl, inr}
use Rattle.std.specs.Prelude.{◌||◌, Ok, MatchBool}
use Rattle.std.specs.List.{list_any}
use Rattle.cx_base.specs.Abends.{abend_code}
use Rattle.cx_base.specs.declared.abends.Abend.TheVariants as abend
use Rattle.cx_base.specs.declared.conditions.Condition.{Condition}
use Rattle.cx_base.specs.Eib.{eib_len}
use Rattle.cx_exec.specs.declared.machine.Halt.{Halt}
use Rattle.cx_exec.specs.declared.machine.Halt.TheVariants as halt
use Rattle.cx_storage.specs.Address.{address_in, address_after}
use Rattle.cx_storage.specs.Storage.{Storage, byte_at, with_area}
use Rattle.cx_region_state.specs.declared.outputs.Output.{Output}
use Rattle.cx_region_state.specs.declared.outputs.OutputValue.TheVariants.{Word}
use Rattle.cx_region_state.specs.Call.{Call, call_of, resp_place}
use Rattle.cx_region_state.specs.Facts.Inputs.{place_below}
use Rattle.cx_region_state.specs.Laws.Calls.{CallIsRead}
use Rattle.cx_region_state.specs.Outputs.{bytes_from, can_put, put_out}
use Rattle.cx_region_commands.specs.Common.{output as output_of}
use Rattle.cx_region_commands.specs.CommandVerdicts.{HasVerdict}
use Rattle.cx_region_state.specs.declared.replies.TurnReply.TheVariants as turn
use Rattle.cx_region_state.specs.declared.verdict.TaskChange.{TaskChange}
use Rattle.cx_region_state.specs.declared.verdict.TaskChange.TheVariants.{Nothing, Before, After, Gets, Enters, Replaces, LevelEnds, TaskEnds, AbendsWith}
use Rattle.cx_region_state.specs.declared.verdict.AfterOutputs.{AfterOutputs}
use Rattle.cx_region_state.specs.declared.verdict.AfterOutputs.TheVariants.{TakesInput, MarksRead, QueueGone, Dequeues, Frees}
use Rattle.cx_region_state.specs.declared.verdict.Fill.{Fill}
use Rattle.cx_region_state.specs.declared.verdict.Fill.TheVariants.{Byte, Item}
use Rattle.cx_region_state.specs.declared.verdict.BeforeOutputs.{BeforeOutputs}
use Rattle.cx_region_state.specs.declared.verdict.BeforeOutputs.TheVariants as made
use Rattle.cx_region_state.specs.declared.verdict.Verdict.TheVariants.{Meets}
use Rattle.cx_region_state.specs.Areas.{got_owner, with_filled}
use Rattle.cx_region_state.specs.State.{TaskContext, TaskState}
use Rattle.cx_region_state.specs.Verdicts.{handed_over}
use Rattle.cx_region_task.specs.declared.continuation.Continuation.{Continuation}
use Rattle.cx_region_task.specs.declared.continuation.Continuation.TheVariants as continuation
use Rattle.cx_region_task.specs.Abends.{Abends, AbendsAt}
use Rattle.cx_region_task.specs.Decisions.{has_room, continuation_at}
use Rattle.cx_region_task.specs.Changes.{AppliesBefore, Commits, fill_bytes, apply_after, write_outputs, read_for, report_of, write_report, with_got}
use Rattle.cx_region_task.specs.Performing.{LeavesAll, argument_list}
use Rattle.cx_region_task.specs.Facts.Met.{IsMet, by_decision}
use Rattle.cx_region_task.specs.declared.cause.AbendRecord.{AbendRecord}
use Rattle.cx_region_task.specs.Turn.{HalfTurn, HalfTurnWith, PerformsCommand, EndsRun, RunsOn}
use Rattle.cx_region_task.specs.Continuations.{Goes, on_its_way}
use Rattle.cx_region_laws.specs.Laws.Bytes.{is_among, is_in_output}
use Rattle.cx_region_laws.specs.Laws.Pointers.{OutputsStand, OutputsStay, PointersStand, ProgramsGoOn}
use Rattle.cx_region_laws.proofs.ClearLemmas.{clear_of}
use Rattle.cx_region_laws.proofs.CommandLemmas.{call_low, resource_reported, text_same}
use Rattle.cx_region_laws.proofs.AppliedLemmas.{applied_task}
use Rattle.cx_region_laws.proofs.LevelLemmas.{finished_task}
use Rattle.cx_region_laws.proofs.RowLemmas.{AreShort, IsShort, judged_row, keeps_areas}
use Rattle.cx_region_laws.proofs.StandLemmas.{KeepsPresent, area_present, puts_stand, report_elsewhere, room_in, short_bytes, short_in, spans_kept, word_stands, write_present}
use Rattle.cx_region_laws.proofs.WrittenLemmas.{AreLow, resource_fits}

-- ---- the registers and the code
abbrev program_of : TaskContext → List ℕ × ℕ
program_of r = (r.task.regs, r.task.cc)

made_program : (it : BeforeOutputs) (before after : TaskContext) → AppliesBefore (Before it) before after → program_of after ≡ program_of before
unfolding AppliesBefore
made_program (made.ItemLast name piece) before after applied = ap program_of applied
made_program (made.ItemAt name n piece) before after applied = ap program_of applied
made_program (made.Enqueues resource) before after applied = ap program_of applied
made_program (made.Shows piece erase) before after applied = ap program_of applied.others
made_program (made.Handles request) before after applied = ap program_of applied

applied_program : (change : TaskChange) (before after : TaskContext) → AppliesBefore change before after → program_of after ≡ program_of before
unfolding AppliesBefore
applied_program Nothing before after applied = ap program_of applied
applied_program (Before it) before after applied = made_program it before after applied
applied_program (After it) before after applied = ap program_of applied
applied_program (Gets got) before after applied = ap program_of applied
applied_program (Enters level) before after applied = ap program_of applied
applied_program (Replaces copying level) before after applied = ap program_of applied
applied_program LevelEnds before after applied = ap program_of applied
applied_program (TaskEnds next) before after applied = ap program_of applied
applied_program (AbendsWith code cancel) before after applied = ap program_of applied

settles_program : (call : Call) (condition : Condition) (outputs : List Output) (change : TaskChange) (start after : TaskContext) → Commits call condition outputs change start after
    → program_of after ≡ program_of start
unfolding write_outputs write_report
settles_program call condition outputs change start after it =
    ap program_of it.committed ∙ ap (λ (task : TaskState). (task.regs, task.cc)) (finished_task change _) ∙ applied_program change start it.made it.applied

-- ---- storage
got_present : (before : TaskContext) (s : Storage) (place len : ℕ) (bytes : List ℕ) → KeepsPresent s (with_filled s place len (got_owner before.terminal_entry.slot) bytes)
unfolding with_filled
got_present before s place len bytes x there =
    let owner = got_owner before.terminal_entry.slot in
    write_present (with_area s (Some place) len owner) place bytes x (area_present s place len owner x there)

same_present : (before after to : TaskContext) → after ≡ to → KeepsPresent before.shared.storage to.shared.storage → KeepsPresent before.shared.storage after.shared.storage
same_present before after to e keeps = subst (λ (r : TaskContext). KeepsPresent before.shared.storage r.shared.storage) (sym e) keeps

made_present : (it : BeforeOutputs) (before after : TaskContext) → AppliesBefore (Before it) before after → KeepsPresent before.shared.storage after.shared.storage
unfolding AppliesBefore
made_present (made.ItemLast name piece) before after applied = same_present before after _ applied (λ x e. e)
made_present (made.ItemAt name n piece) before after applied = same_present before after _ applied (λ x e. e)
made_present (made.Enqueues resource) before after applied = same_present before after _ applied (λ x e. e)
made_present (made.Shows piece erase) before after applied = same_present before after _ applied.others (λ x e. e)
made_present (made.Handles request) before after applied = same_present before after _ applied (λ x e. e)

applied_present : (change : TaskChange) (before after : TaskContext) → keeps_areas change ≡ true → AppliesBefore change before after → KeepsPresent before.shared.storage after.shared.storage
unfolding AppliesBefore with_got
applied_present Nothing before after keeps applied = same_present before after _ applied (λ x e. e)
applied_present (Before it) before after keeps applied = made_present it before after applied
applied_present (After it) before after keeps applied = same_present before after _ applied (λ x e. e)
applied_present (Gets got) before after keeps applied =
    same_present before after _ applied (got_present before before.shared.storage got.place got.len (fill_bytes got.fill got.len before.shared.queues))
applied_present (Enters level) before after keeps applied = cc
applied_present (Replaces copying level) before after keeps applied = cc
applied_present LevelEnds before after keeps applied = cc
applied_present (TaskEnds next) before after keeps applied = cc
applied_present (AbendsWith code cancel) before after keeps applied = cc

ended_storage : (it : AfterOutputs) (r : TaskContext) → keeps_areas (After it) ≡ true → (apply_after (After it) r).shared.storage ≡ r.shared.storage
unfolding apply_after
ended_storage TakesInput r keeps = refl
ended_storage (MarksRead name n) r keeps = refl
ended_storage (QueueGone name) r keeps = refl
ended_storage (Dequeues resource) r keeps = refl
ended_storage (Frees place) r keeps = cc

read_storage : (fill : Fill) (r : TaskContext) → (read_for fill r).shared.storage ≡ r.shared.storage
read_storage (Byte b) r = refl
read_storage (Item name n) r = refl

finished_storage : (change : TaskChange) (r : TaskContext) → keeps_areas change ≡ true → (apply_after change r).shared.storage ≡ r.shared.storage
unfolding apply_after
finished_storage Nothing r keeps = refl
finished_storage (Before it) r keeps = refl
finished_storage (After it) r keeps = ended_storage it r keeps
finished_storage (Gets got) r keeps = read_storage got.fill r
finished_storage (Enters level) r keeps = refl
finished_storage (Replaces copying level) r keeps = refl
finished_storage LevelEnds r keeps = refl
finished_storage (TaskEnds next) r keeps = refl
finished_storage (AbendsWith code cancel) r keeps = refl

-- ---- the command that is answered so
record IsDone (condition : Condition) (before after : TaskContext) : Type 0 where
  call : Call
  reads : call_of before.shared.storage (argument_list before.task) ≡ Ok call
  outputs : List Output
  change : TaskChange
  judged : HasVerdict call before (Meets condition outputs change)
  room : has_room call outputs change before ≡ true
  committed : TaskContext
  commits : Commits call condition outputs change before committed
  goes : after ≡ on_its_way committed

not_abends : {P : Type 0} (code : List ℕ) (cancel : Bool) (condition : Condition) (before after : TaskContext) → Abends code cancel before (turn.Performed condition) after → P
unfolding AbendsAt
not_abends {P} code cancel condition before after it = go it.exit it.ends
  where
    go : (o : Option ℕ) → AbendsAt o code before (turn.Performed condition) after → P
    go None over = let no : turn.Performed condition ≡ turn.Abended code = over.0 in cc
    go (Some index) over = let no : turn.Performed condition ≡ turn.TookExit code = over.0 in cc

not_waits : {P : Type 0} (condition : Condition) (before after : TaskContext) → LeavesAll before (turn.Performed condition) after → P
not_waits condition before after it = let no : turn.Performed condition ≡ turn.Waiting = it.waiting in cc

goes_on : (gone : Continuation) (met condition : Condition) (committed after : TaskContext) → Goes gone met committed (turn.Performed condition) after → (met ≡ condition) × (after ≡ on_its_way committed)
unfolding Goes
goes_on continuation.GoesOn met condition committed after goes = let same : turn.Performed condition ≡ turn.Performed met = goes.0 in (cc, goes.1)
goes_on (continuation.TakesLabel label) met condition committed after goes = let no : turn.Performed condition ≡ turn.TookLabel met = goes.0 in cc
goes_on continuation.Waits met condition committed after goes = let no : turn.Performed condition ≡ turn.Waiting = goes.0 in cc
goes_on (continuation.Abends code cancel) met condition committed after goes = not_abends code cancel condition committed after goes
goes_on (continuation.Enters level) met condition committed after goes = let no : turn.Performed condition ≡ turn.Entered = goes.0 in cc
goes_on (continuation.Replaces level) met condition committed after goes = let no : turn.Performed condition ≡ turn.Entered = goes.0 in cc
goes_on continuation.LevelEnds met condition committed after goes = let no : turn.Performed condition ≡ turn.Returned = goes.0 in cc
goes_on continuation.TaskEnds met condition committed after goes = let no : turn.Performed condition ≡ turn.Ended = goes.0 in cc

met_done : (condition : Condition) (before after : TaskContext) → IsMet (turn.Performed condition) before after → IsDone condition before after
met_done condition before after met =
    let on = goes_on (continuation_at met.call met.condition met.change before) met.condition condition met.committed after met.goes in
    record {
      call = met.call;
      reads = met.reads;
      outputs = met.outputs;
      change = met.change;
      judged = subst (λ (c : Condition). HasVerdict met.call before (Meets c met.outputs met.change)) on.0 met.judged;
      room = met.room;
      committed = met.committed;
      commits = subst (λ (c : Condition). Commits met.call c met.outputs met.change before met.committed) on.0 met.commits;
      goes = on.1;
    }

commanded_done : (condition : Condition) (before after : TaskContext) (abend_record : Option AbendRecord) → PerformsCommand before (turn.Performed condition) abend_record after → IsDone condition before after
commanded_done condition before after abend_record it =
    by_decision before after (turn.Performed condition) abend_record it (λ refusal abends. not_abends (abend_code refusal) false condition before after abends)
    (λ leaves. not_waits condition before after leaves) (λ met. met_done condition before after met)

not_runs : {P : Type 0} (condition : Condition) (before after : TaskContext) (abend_record : Option AbendRecord) → RunsOn before (turn.Performed condition) abend_record after → P
unfolding EndsRun
not_runs {P} condition before after abend_record it = by_halt it.how it.ends
  where
    by_halt : (how : Halt) → EndsRun how it.between (turn.Performed condition) after → P
    by_halt halt.AtEntry over = let no : turn.Performed condition ≡ turn.AtCommand = over.0 in cc
    by_halt (halt.Interrupt cause place) abends = not_abends (abend_code abend.Asra) false condition it.between after abends
    by_halt halt.Limit abends = not_abends (abend_code abend.Aica) false condition it.between after abends

half_done : (condition : Condition) (before after : TaskContext) → HalfTurn before (turn.Performed condition) after → (before.task.due ≡ true) × IsDone condition before after
unfolding HalfTurnWith
half_done condition before after half = by_due before.task.due refl half.turns
  where
    by_due : (b : Bool) → before.task.due ≡ b → MatchBool b (PerformsCommand before (turn.Performed condition) half.abend_record after) (RunsOn before (turn.Performed condition) half.abend_record after)
        → (before.task.due ≡ true) × IsDone condition before after
    by_due true due commanded = (due, commanded_done condition before after half.abend_record commanded)
    by_due false due runs = not_runs condition before after half.abend_record runs

pub programs_go_on : ProgramsGoOn
programs_go_on before after condition half =
    let both = half_done condition before after half in
    let done = both.1 in
    let same = settles_program done.call condition done.outputs done.change before done.committed done.commits in
    let regs : done.committed.task.regs ≡ before.task.regs = ap (λ (p : List ℕ × ℕ). p.0) same in
    record {
      was_due = both.0;
      next = ap (λ (r : TaskContext). r.task.next) done.goes ∙ ap (λ (l : List ℕ). address_in (slice_index l 14)) regs;
      regs = ap (λ (r : TaskContext). r.task.regs) done.goes ∙ regs;
      cc = ap (λ (r : TaskContext). r.task.cc) done.goes ∙ ap (λ (p : List ℕ × ℕ). p.1) same;
      due = ap (λ (r : TaskContext). r.task.due) done.goes;
    }

-- ---- the outputs
no_split : {P : Type 0} (outputs front later : List Output) (output : Output) → outputs ≡ [] → outputs ≡ front ++ output ∷ later → P
no_split outputs [] later output none split = let never : [] ≡ output ∷ later = sym none ∙ split in cc
no_split outputs (first ∷ rest) later output none split = let never : [] ≡ first ∷ (rest ++ output ∷ later) = sym none ∙ split in cc

-- an address that is not written again is none of what is written after the output
apart_parts : (a b c : Bool) → (a || b || c) ≡ false → (a ≡ false) × (b ≡ false) × (c ≡ false)
apart_parts true b c e = cc
apart_parts false true c e = cc
apart_parts false false c e = (refl, refl, e)

-- the settled state's storage: the outputs, and the report after them
settled_storage : (call : Call) (condition : Condition) (outputs : List Output) (change : TaskChange) (start after : TaskContext) → keeps_areas change ≡ true
    → (commits : Commits call condition outputs change start after)
    → after.shared.storage ≡ (write_report call (report_of call condition change start) (write_outputs call outputs change commits.made)).shared.storage
settled_storage call condition outputs change start after keeps commits =
    ap (λ (r : TaskContext). r.shared.storage) commits.committed ∙ finished_storage change _ keeps

settled_byte : (call : Call) (condition : Condition) (outputs : List Output) (change : TaskChange) (start after : TaskContext) (x : ℕ) → keeps_areas change ≡ true → AreLow call.places
    → start.task.eib < 2 ^ 24 → is_among x (Some start.task.eib) eib_len ≡ false → is_among x (resp_place call) 4 ≡ false
    → (commits : Commits call condition outputs change start after)
    → byte_at after.shared.storage x ≡ byte_at (put_out commits.made.shared.storage call (handed_over change start) outputs) x
unfolding write_outputs write_report
settled_byte call condition outputs change start after x keeps places low off_eib off_resp commits =
    let made = commits.made in
    let answer = report_of call condition change start in
    let written = put_out made.shared.storage call (handed_over change made) outputs in
    let eib = (applied_task change start made commits.applied).eib in
    ap (λ (s : Storage). byte_at s x) (settled_storage call condition outputs change start after keeps commits)
    ∙ report_elsewhere written made.task.eib call answer x places (subst (λ (n : ℕ). n < 2 ^ 24) (sym eib) low) (λ bytes e. resource_fits start.shared.storage call bytes (sym (resource_reported call condition change start) ∙ e))
    (subst (λ (n : ℕ). is_among x (Some n) eib_len ≡ false) (sym eib) off_eib) off_resp
    ∙ ap (λ (text : List ℕ). byte_at (put_out made.shared.storage call text outputs) x) (text_same change start made commits.applied)

outputs_stand : (condition : Condition) (before after : TaskContext) (done : IsDone condition before after) → AreLow done.call.places → before.task.eib < 2 ^ 24
    → OutputsStand after.shared.storage before.task.eib done.call (handed_over done.change before) done.outputs
unfolding has_room
outputs_stand condition before after done places low front later output place k byte split at_place at apart =
    elim (judged_row done.call before (Meets condition done.outputs done.change) done.judged).plain [
      | inl none ↦ no_split done.outputs front later output none split
      | inr plain ↦ stands plain.0 (short_in front later output (subst AreShort split plain.1))
    ]
  where
    text : List ℕ
    text = handed_over done.change before

    x : ℕ
    x = address_after place k

    stands : keeps_areas done.change ≡ true → IsShort output.source → byte_at after.shared.storage x ≡ Some byte
    stands keeps short =
        let off = apart_parts (list_any (is_in_output x done.call text) later) (is_among x (Some before.task.eib) eib_len) (is_among x (resp_place done.call) 4) apart in
        let made = done.commits.made in
        let room : can_put before.shared.storage done.call text (front ++ output ∷ later) ≡ true = subst (λ (l : List Output). can_put before.shared.storage done.call text l ≡ true) split done.room in
        let there = room_in before.shared.storage done.call text front later output place room at_place in
        let kept = spans_kept before.shared.storage made.shared.storage (applied_present done.change before made keeps done.commits.applied) place (length (bytes_from text output.source)) there in
        ap (λ (r : TaskContext). byte_at r.shared.storage x) done.goes
        ∙ settled_byte done.call condition done.outputs done.change before done.committed x keeps places low off.1 off.2 done.commits
        ∙ ap (λ (l : List Output). byte_at (put_out made.shared.storage done.call text l) x) split
        ∙ puts_stand made.shared.storage done.call text front later output place k byte places (short_bytes text output.source short) kept at_place at off.0

-- a pointer is an output of four bytes
pointers_stand : (condition : Condition) (before after : TaskContext) (done : IsDone condition before after) → AreLow done.call.places → before.task.eib < 2 ^ 24
    → PointersStand after.shared.storage before.task.eib done.call (handed_over done.change before) done.outputs
pointers_stand condition before after done places low front later option place pointer split at_place apart =
    elim (judged_row done.call before (Meets condition done.outputs done.change) done.judged).plain [
      | inl none ↦ no_split done.outputs front later (output_of option (Word pointer)) none split
      | inr plain ↦
          word_stands after.shared.storage place pointer (place_below done.call option place places at_place)
          (short_in front later (output_of option (Word pointer)) (subst AreShort split plain.1))
          (λ k byte less at. outputs_stand condition before after done places low front later (output_of option (Word pointer)) place k byte split at_place at (apart k less))
    ]

pub outputs_stay : CallIsRead → OutputsStay
outputs_stay law before after condition ok own half =
    let done = (half_done condition before after half).1 in
    let places = call_low before.shared.storage (argument_list before.task) done.call ((law before.shared.storage (argument_list before.task) done.call ok (omega arith)).0 done.reads) in
    let ends = (clear_of before.shared.storage before.terminal_entry.slot before.task ok own).low in
    let low : before.task.eib < 2 ^ 24 = omega (arith, ends) in
    record {
      call = done.call;
      reads = done.reads;
      outputs = done.outputs;
      change = done.change;
      judged = done.judged;
      bytes = outputs_stand condition before after done places low;
      pointers = pointers_stand condition before after done places low;
    }
