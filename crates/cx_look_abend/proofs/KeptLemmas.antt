-- The record of a turn's abend explains its reply, and so an abend is kept.
use Rattle.std.proofs.Common.{◌≡◌, ℕ, Bool, true, false, Option, Some, None, List, refl, sym, subst, ap, ◌∙◌}
use Rattle.std.specs.Prelude.{MatchBool, MatchOption, if◌then◌else◌}
use Rattle.std.specs.Option.{option_map_or}
use Rattle.cx_region_state.specs.declared.replies.TurnReply.{TurnReply}
use Rattle.cx_region_state.specs.declared.replies.TurnReply.TheVariants as turn
use Rattle.cx_region_state.specs.State.{TaskState}
use Rattle.cx_region_task.specs.declared.cause.AbendRecord.{AbendRecord}
use Rattle.cx_region_task.specs.Turn.{HasAbendRecord}
use Rattle.cx_region_task.specs.Laws.AbendRecords.{Explains, AbendRecordsDecide, AbendRecordsExplain}
use Rattle.cx_region.specs.Events.{Applies}
use Rattle.cx_region.specs.State.{RegionState, TerminalState}
use Rattle.cx_region.specs.Tables.{terminal_of}
use Rattle.cx_region.specs.Turn.{TaskTakesTurn, TakesTurn, TurnHasAbendRecord, context_of}
use Rattle.cx_region.specs.declared.replies.Event.TheVariants as event
use Rattle.cx_region.specs.declared.replies.Reply.{Reply}
use Rattle.cx_region.specs.declared.replies.Reply.TheVariants as reply
use Rattle.cx_edf.specs.Laws.Edf.{EdfEventsDecide}
use Rattle.cx_edf.specs.State.{EdfState, holds}
use Rattle.cx_edf.specs.Steps.{DisplayMaker, DoorAnswers, EdfApplies, EdfHasAbendRecord, Keeps, Passes, door_of}
use Rattle.cx_edf.specs.declared.answers.Answer.{Answer}
use Rattle.cx_edf.specs.declared.answers.Answer.TheVariants as answer
use Rattle.cx_edf.specs.declared.answers.EdfEvent.{EdfEvent}
use Rattle.cx_edf.specs.declared.answers.EdfEvent.TheVariants as edf_event
use Rattle.cx_look_abend.specs.Abends.{before_turn, last_of_turn}
use Rattle.cx_look_abend.specs.Dumps.{Dump, TurnHasDump}
use Rattle.cx_look_abend.specs.Parts.Sources.{DumpSource, GivesDump, IsSourceAt}
use Rattle.cx_look_abend.specs.declared.abends.TaskBefore.{TaskBefore}
use Rattle.cx_look_abend.proofs.DumpLemmas.{RunsAreDecided, event_dumps_decide, event_gives}
use Rattle.cx_look_abend.specs.Laws.{AbendsAreKept, KeepsTurn, NotedDecide}
use Rattle.cx_look_abend.specs.Noting.{AppliesWithAbends, EventHasDump, KeptAbends, is_ending_key, kept_after, task_before, with_last}

turn_explains : AbendRecordsExplain → (old new : RegionState) (name : List ℕ) (given : TurnReply) (abend_record : Option AbendRecord)
    → TakesTurn old name given new → TurnHasAbendRecord old name abend_record → Explains abend_record given
unfolding TakesTurn TurnHasAbendRecord
turn_explains law old new name given abend_record turned recorded = by_terminal (terminal_of old name) turned recorded
  where
    by_task : (t : TerminalState) (o : Option TaskState) → MatchOption o ((given ≡ turn.Idle) × (new ≡ old)) (λ task. TaskTakesTurn old name t task given new)
        → MatchOption o (abend_record ≡ None) (λ task. HasAbendRecord (context_of old t task) abend_record) → Explains abend_record given
    by_task t None idle none = rw (none, idle.0) refl
    by_task t (Some task) it that = law (context_of old t task) it.reached given abend_record it.half_turn that

    by_terminal : (o : Option TerminalState)
        → MatchOption o ((given ≡ turn.NoSuchTerminal) × (new ≡ old)) (λ t. MatchOption t.task ((given ≡ turn.Idle) × (new ≡ old)) (λ task. TaskTakesTurn old name t task given new))
        → MatchOption o (abend_record ≡ None) (λ t. MatchOption t.task (abend_record ≡ None) (λ task. HasAbendRecord (context_of old t task) abend_record)) → Explains abend_record given
    by_terminal None nowhere none = rw (none, nowhere.0) refl
    by_terminal (Some t) it that = by_task t t.task it that

passed_explains : AbendRecordsExplain → (old new : RegionState) (name : List ℕ) (given : TurnReply) (answered : Reply) (abend_record : Option AbendRecord)
    → reply.Turn given ≡ answered → Applies old (event.Turn name) answered new → TurnHasAbendRecord old name abend_record → Explains abend_record given
unfolding Applies
passed_explains law old new name given answered abend_record is applies recorded =
    turn_explains law old new name given abend_record (subst (λ (r : Reply). Applies old (event.Turn name) r new) (sym is) applies) recorded

event_explains : AbendRecordsExplain → (make : DisplayMaker) (old new : EdfState) (name : List ℕ) (given : TurnReply) (abend_record : Option AbendRecord)
    → EdfApplies make old (edf_event.Plain (event.Turn name)) (answer.Region (reply.Turn given)) new → EdfHasAbendRecord old (edf_event.Plain (event.Turn name)) abend_record
    → Explains abend_record given
unfolding EdfApplies door_of EdfHasAbendRecord
event_explains law make old new name given abend_record applies recorded = by_held (holds old name) applies recorded
  where
    by_held : (b : Bool) → DoorAnswers make old (if b then Keeps answer.Held old.sessions else Passes (event.Turn name) None) (answer.Region (reply.Turn given)) new
        → MatchBool b (abend_record ≡ None) (TurnHasAbendRecord old.region name abend_record) → Explains abend_record given
    by_held true it none = absurd (let no : answer.Region (reply.Turn given) ≡ answer.Held = it.0 in cc)
    by_held false it that =
        let answered : answer.Region (reply.Turn given) ≡ answer.Region it.reply = it.answers in
        let same : reply.Turn given ≡ it.reply = cc in
        passed_explains law old.region new.region name given it.reply abend_record same it.applies that

recorded_by : (old : RegionState) (name : List ℕ) (abend_record : Option AbendRecord) (held : Bool) → MatchBool held (abend_record ≡ None) (TurnHasAbendRecord old name abend_record)
    → (it : AbendRecord) → abend_record ≡ Some it → TurnHasAbendRecord old name (Some it)
recorded_by old name abend_record true none it e = cc
recorded_by old name abend_record false recorded it e = subst (λ (r : Option AbendRecord). TurnHasAbendRecord old name r) e recorded

kept_by : (before : KeptAbends) (old new : RegionState) (name : List ℕ) (given : TurnReply) (dump : Option Dump) (abend_record : Option AbendRecord) → Explains abend_record given
    → ((it : AbendRecord) → abend_record ≡ Some it → TurnHasAbendRecord old name (Some it)) → MatchOption abend_record (dump ≡ None) (λ it. TurnHasDump old name dump)
    → KeepsTurn before old new name given (option_map_or (with_last before name) (last_of_turn new name given (before_turn old name) dump abend_record) before)
kept_by before old new name turn.Idle dump None is recorded dumped = refl
kept_by before old new name turn.NoSuchTerminal dump None is recorded dumped = refl
kept_by before old new name turn.AtCommand dump None is recorded dumped = refl
kept_by before old new name (turn.Performed condition) dump None is recorded dumped = refl
kept_by before old new name turn.Entered dump None is recorded dumped = refl
kept_by before old new name turn.Returned dump None is recorded dumped = refl
kept_by before old new name turn.Waiting dump None is recorded dumped = refl
kept_by before old new name (turn.TookLabel condition) dump None is recorded dumped = refl
kept_by before old new name turn.Ended dump None is recorded dumped = refl
kept_by before old new name (turn.TookExit code) dump None is recorded dumped = absurd (let no : true ≡ false = is in cc)
kept_by before old new name (turn.Abended code) dump None is recorded dumped = absurd (let no : true ≡ false = is in cc)
kept_by before old new name (turn.TookExit code) dump (Some abend_record) is recorded dumped =
    record { last = _; kept = refl; of_task = refl; with_code = refl; abend_record = abend_record; recorded = recorded abend_record refl; dump = dump; dumped = dumped; explained = refl; went_on = refl }
kept_by before old new name (turn.Abended code) dump (Some abend_record) is recorded dumped =
    record { last = _; kept = refl; of_task = refl; with_code = refl; abend_record = abend_record; recorded = recorded abend_record refl; dump = dump; dumped = dumped; explained = refl; went_on = refl }
kept_by before old new name turn.Idle dump (Some abend_record) is recorded dumped = absurd is
kept_by before old new name turn.NoSuchTerminal dump (Some abend_record) is recorded dumped = absurd is
kept_by before old new name turn.AtCommand dump (Some abend_record) is recorded dumped = absurd is
kept_by before old new name (turn.Performed condition) dump (Some abend_record) is recorded dumped = absurd is
kept_by before old new name turn.Entered dump (Some abend_record) is recorded dumped = absurd is
kept_by before old new name turn.Returned dump (Some abend_record) is recorded dumped = absurd is
kept_by before old new name turn.Waiting dump (Some abend_record) is recorded dumped = absurd is
kept_by before old new name (turn.TookLabel condition) dump (Some abend_record) is recorded dumped = absurd is
kept_by before old new name turn.Ended dump (Some abend_record) is recorded dumped = absurd is

pub abends_are_kept : AbendRecordsExplain → AbendsAreKept
unfolding task_before EventHasDump EdfHasAbendRecord
abends_are_kept law make old new before after name given it =
    rw (it.kept)
    (kept_by before old.region new.region name given it.dump it.abend_record (event_explains law make old new name given it.abend_record it.applies it.recorded)
    (recorded_by old.region name it.abend_record (holds old name) it.recorded) it.dumped)

-- ---- what is kept is decided
turn_abend_records_decide : AbendRecordsDecide → (old : RegionState) (name : List ℕ) (one other : Option AbendRecord) → TurnHasAbendRecord old name one → TurnHasAbendRecord old name other → one ≡ other
unfolding TurnHasAbendRecord
turn_abend_records_decide law old name one other h k = by_terminal (terminal_of old name) h k
  where
    by_task : (t : TerminalState) (o : Option TaskState) → MatchOption o (one ≡ None) (λ task. HasAbendRecord (context_of old t task) one)
        → MatchOption o (other ≡ None) (λ task. HasAbendRecord (context_of old t task) other) → one ≡ other
    by_task t None it that = it ∙ sym that
    by_task t (Some task) it that = law (context_of old t task) one other it that

    by_terminal : (o : Option TerminalState)
        → MatchOption o (one ≡ None) (λ t. MatchOption t.task (one ≡ None) (λ task. HasAbendRecord (context_of old t task) one))
        → MatchOption o (other ≡ None) (λ t. MatchOption t.task (other ≡ None) (λ task. HasAbendRecord (context_of old t task) other)) → one ≡ other
    by_terminal None it that = it ∙ sym that
    by_terminal (Some t) it that = by_task t t.task it that

abend_records_decide : AbendRecordsDecide → (old : EdfState) (e : EdfEvent) (one other : Option AbendRecord) → EdfHasAbendRecord old e one → EdfHasAbendRecord old e other → one ≡ other
unfolding EdfHasAbendRecord
abend_records_decide law old (edf_event.Plain (event.Turn name)) one other h k = by_held (holds old name) h k
  where
    by_held : (b : Bool) → MatchBool b (one ≡ None) (TurnHasAbendRecord old.region name one) → MatchBool b (other ≡ None) (TurnHasAbendRecord old.region name other) → one ≡ other
    by_held true it that = it ∙ sym that
    by_held false it that = turn_abend_records_decide law old.region name one other it that
abend_records_decide law old (edf_event.Plain (event.Program name image)) one other h k = h ∙ sym k
abend_records_decide law old (edf_event.Plain (event.Transaction tran program)) one other h k = h ∙ sym k
abend_records_decide law old (edf_event.Plain (event.Terminal name)) one other h k = h ∙ sym k
abend_records_decide law old (edf_event.Plain (event.Clock time date)) one other h k = h ∙ sym k
abend_records_decide law old (edf_event.Plain (event.Key name aid bytes)) one other h k = h ∙ sym k
abend_records_decide law old (edf_event.Plain (event.Alter name change)) one other h k = h ∙ sym k
abend_records_decide law old (edf_event.On name) one other h k = h ∙ sym k
abend_records_decide law old (edf_event.Off name) one other h k = h ∙ sym k

-- the DFHEISTG at an abend to which it leads
same_dump : RunsAreDecided → (region : RegionState) (e : EdfEvent) (one other : Option Dump) (abend_record : Option AbendRecord)
    → MatchOption abend_record (one ≡ None) (λ it. EventHasDump region e one) → MatchOption abend_record (other ≡ None) (λ it. EventHasDump region e other) → one ≡ other
same_dump law region e one other None h k = h ∙ sym k
same_dump law region e one other (Some abend_record) h k = event_dumps_decide law region e one other h k

pub noted_decide : EdfEventsDecide → AbendRecordsDecide → RunsAreDecided → NotedDecide
noted_decide events law runs make old new later before after others e given other h k =
    let same : (given ≡ other) × (new ≡ later) = events make old e given other new later h.applies k.applies in
    let abend_record : h.abend_record ≡ k.abend_record = abend_records_decide law old e h.abend_record k.abend_record h.recorded k.recorded in
    let here = subst (λ (r : Option AbendRecord). MatchOption r (h.dump ≡ None) (λ it. EventHasDump old.region e h.dump)) abend_record h.dumped in
    let dump : h.dump ≡ k.dump = same_dump runs old.region e h.dump k.dump k.abend_record here k.dumped in
    (same.0, same.1, h.kept ∙ (rw (same.0, same.1, abend_record, dump) refl) ∙ sym k.kept)

-- ---- what is kept after an event, by what its steps give
pub noted_by : (make : DisplayMaker) (old new : EdfState) (before kept after : KeptAbends) (e : EdfEvent) (given : Answer) (ends : Bool) (task : TaskBefore) (source : DumpSource)
    (first second third : RegionState) (abend_record : Option AbendRecord) (dump : Option Dump)
    → after ≡ kept_after kept ends task e given dump abend_record third → third ≡ new.region → kept ≡ before → ends ≡ is_ending_key old e
    → task ≡ task_before first e → first ≡ old.region → EdfApplies make old e given new → EdfHasAbendRecord old e abend_record
    → MatchOption abend_record (dump ≡ None) (λ it. GivesDump source dump) → IsSourceAt second e source → second ≡ old.region
    → AppliesWithAbends make old before e given new after
noted_by make old new before kept after e given ends task source first second third abend_record dump is third_is same_kept ends_is task_is first_is applies recorded gives of second_is =
    record {
      abend_record = abend_record;
      applies = applies;
      recorded = recorded;
      dump = dump;
      dumped = event_gives old.region e source dump abend_record (subst (λ (r : RegionState). IsSourceAt r e source) second_is of) gives;
      kept = is
          ∙ ap (λ (k : KeptAbends). kept_after k ends task e given dump abend_record third) same_kept
          ∙ ap (λ (b : Bool). kept_after before b task e given dump abend_record third) ends_is
          ∙ ap (λ (t : TaskBefore). kept_after before (is_ending_key old e) t e given dump abend_record third)
          (task_is ∙ ap (λ (r : RegionState). task_before r e) first_is)
          ∙ ap (λ (r : RegionState). kept_after before (is_ending_key old e) (task_before old.region e) e given dump abend_record r) third_is;
    }
