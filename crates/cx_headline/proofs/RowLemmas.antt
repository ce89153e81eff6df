-- Each event of a run is its row.
use Rattle.std.proofs.Common.{◌≡◌, ℕ, zero, suc, ◌+◌, Bool, true, false, List, [], ◌∷◌, Option, Some, None, refl, sym, ◌∙◌, subst, is_some, take, arith}
use Rattle.std.specs.Prelude.{length, MatchOption, slice_get, if◌then◌else◌}
use Rattle.std.proofs.lemmas.Bool.{and_parts, eqb-true, true≢false}
use Rattle.std.proofs.lemmas.List.{nil_from_length}
use Rattle.cx_ebcdic.specs.declared.aids.Aid.{Aid}
use Rattle.cx_ebcdic.specs.declared.aids.Aid.TheVariants as aid
use Rattle.cx_region.specs.declared.changes.AlterReply.{AlterReply}
use Rattle.cx_region.specs.declared.changes.AlterReply.TheVariants as alter
use Rattle.cx_region.specs.declared.changes.Change.TheVariants as change
use Rattle.cx_region.specs.declared.replies.Event.{Event}
use Rattle.cx_region.specs.declared.replies.Event.TheVariants as event
use Rattle.cx_region.specs.declared.replies.Reply.{Reply}
use Rattle.cx_region.specs.declared.replies.Reply.TheVariants as reply
use Rattle.cx_region_state.specs.declared.replies.TurnReply.{TurnReply}
use Rattle.cx_region_state.specs.declared.replies.TurnReply.TheVariants as turn
use Rattle.cx_region_state.specs.State.{TaskState}
use Rattle.cx_region_task.specs.Laws.HalfTurns.{HalfTurnsDecide}
use Rattle.cx_region.specs.State.{RegionState, TerminalState}
use Rattle.cx_region.specs.Tables.{task_of, terminal_of}
use Rattle.cx_region.specs.Turn.{TaskTakesTurn, TakesTurn, context_of}
use Rattle.cx_region.specs.Alter.{Alters}
use Rattle.cx_region.specs.Events.{Applies}
use Rattle.cx_region_laws.specs.Facts.Alterations.{abends_are_done, alter_reply}
use Rattle.cx_edf.specs.declared.answers.Answer.{Answer}
use Rattle.cx_edf.specs.declared.answers.Answer.TheVariants as answer
use Rattle.cx_edf.specs.declared.answers.EdfEvent.{EdfEvent}
use Rattle.cx_edf.specs.declared.answers.EdfEvent.TheVariants as edf_event
use Rattle.cx_edf.specs.State.{EdfState, ends_by_key, holds, stopped_at}
use Rattle.cx_edf.specs.Steps.{EdfApplies, DisplayMaker, DoorAnswers, Door, PassesOn, door_of}
use Rattle.cx_edf.specs.Erasure.{is_own, left_of}
use Rattle.cx_edf.specs.Runs.{Trace, last_state}
use Rattle.cx_edf.specs.Laws.Edf.{ErasedEvents, ErasedEventsLeaveTheRegion, OtherEventsArePassed, OwnEventsHaveOwnAnswers, event_ends_task, is_edfs}
use Rattle.cx_headline.specs.Laws.Runs.{OfEachRun, state_after_first}
use Rattle.cx_headline.specs.Laws.Rows.{EachIsItsRow, IsHalfTurn, IsItsRow, IsRow, IsTurn}

-- ---- EDF's own
pub left_none : OwnEventsHaveOwnAnswers → ErasedEvents → (make : DisplayMaker) (old : EdfState) (e : EdfEvent) (given : Answer) (new : EdfState) → EdfApplies make old e given new
    → is_own old e ≡ true → event_ends_task old e ≡ false → left_of old e given ≡ []
left_none answers erased make old e given new h own ends =
    let edfs : is_edfs given ≡ true = sym (answers make old e given new h) ∙ own in
    nil_from_length (left_of old e given) (eqb-true (length (left_of old e given)) 0 (erased make old e given new h ∙ rw (edfs, ends) refl))

-- ---- a key that ends a task
ends_held : (old : EdfState) (name : List ℕ) (a : Aid) → ends_by_key old name a ≡ true → holds old name ≡ true
ends_held old name aid.Pf12 ends = ends
ends_held old name _ ends = absurd (true≢false (sym ends))

ends_live : (old : EdfState) (name : List ℕ) (a : Aid) → ends_by_key old name a ≡ true → is_some (task_of old.region name) ≡ true
ends_live old name a ends = (and_parts (stopped_at old name) (is_some (task_of old.region name)) (ends_held old name a ends)).1

at_true : (make : DisplayMaker) (old : EdfState) (b : Bool) (x y : Door) (given : Answer) (new : EdfState) → b ≡ true → DoorAnswers make old (if b then x else y) given new → DoorAnswers make old x given new
at_true make old true x y given new is h = h
at_true make old false x y given new is h = absurd (true≢false (sym is))

ended_row : (make : DisplayMaker) (before : EdfState) (name : List ℕ) (a : Aid) (bytes : List ℕ) (given : Answer) (after : EdfState) → EdfApplies make before (edf_event.Plain (event.Key name a bytes)) given after
    → ends_by_key before name a ≡ true → Alters before.region name change.Abend alter.Altered after.region
unfolding EdfApplies door_of
ended_row make before name a bytes given after h ends =
    let row : PassesOn make before (event.Alter name change.Abend) (Some answer.ToEdf) given after = at_true make before (ends_by_key before name a) _ _ given after ends h in
    let altered = alter_reply before.region name change.Abend row.reply after.region row.applies in
    subst (λ (r : AlterReply). Alters before.region name change.Abend r after.region) (abends_are_done before.region name altered.0 after.region altered.2 (ends_live before name a ends)) altered.2

-- ---- any other event is passed
pub passed : OtherEventsArePassed → (make : DisplayMaker) (before : EdfState) (x : Event) (given : Answer) (after : EdfState) → EdfApplies make before (edf_event.Plain x) given after
    → is_own before (edf_event.Plain x) ≡ false → PassesOn make before x None given after
unfolding EdfApplies
passed law make before x given after h own = subst (λ (door : Door). DoorAnswers make before door given after) (law before x own) h

-- ---- a turn
of_task : HalfTurnsDecide → (old : RegionState) (name : List ℕ) (t : TerminalState) (o : Option TaskState) (r : TurnReply) (given : Answer) (new : RegionState) → given ≡ answer.Region (reply.Turn r)
    → MatchOption o ((r ≡ turn.Idle) × (new ≡ old)) (λ task. TaskTakesTurn old name t task r new) → MatchOption o (new ≡ old) (λ task. IsHalfTurn old name t task given new)
of_task decide old name t None r given new is h = h.1
of_task decide old name t (Some task) r given new is h =
    record {
      reply = r;
      reached = h.reached;
      half_turn = h.half_turn;
      after = h.after;
      answers = is;
      only = λ other elsewhere k. decide (context_of old t task) elsewhere h.reached other r k h.half_turn;
    }

of_terminal : HalfTurnsDecide → (old : RegionState) (name : List ℕ) (o : Option TerminalState) (r : TurnReply) (given : Answer) (new : RegionState) → given ≡ answer.Region (reply.Turn r)
    → MatchOption o ((r ≡ turn.NoSuchTerminal) × (new ≡ old)) (λ t. MatchOption t.task ((r ≡ turn.Idle) × (new ≡ old)) (λ task. TaskTakesTurn old name t task r new))
    → MatchOption o (new ≡ old) (λ t. MatchOption t.task (new ≡ old) (λ task. IsHalfTurn old name t task given new))
of_terminal decide old name None r given new is h = h.1
of_terminal decide old name (Some t) r given new is h = of_task decide old name t t.task r given new is h

turned : HalfTurnsDecide → (old : RegionState) (name : List ℕ) (r : Reply) (given : Answer) (new : RegionState) → given ≡ answer.Region r → Applies old (event.Turn name) r new → IsTurn old name given new
unfolding Applies TakesTurn
turned decide old name (reply.Turn r) given new is h = of_terminal decide old name (terminal_of old name) r given new is h
turned decide old name _ given new is h = absurd h

turn_row : (make : DisplayMaker) → HalfTurnsDecide → OtherEventsArePassed → (before : EdfState) (name : List ℕ) (given : Answer) (after : EdfState) → EdfApplies make before (edf_event.Plain (event.Turn name)) given after
    → is_own before (edf_event.Plain (event.Turn name)) ≡ false → IsTurn before.region name given after.region
turn_row make decide law before name given after h own =
    let row = passed law make before (event.Turn name) given after h own in
    turned decide before.region name row.reply given after.region row.answers row.applies

other_row : (make : DisplayMaker) → OtherEventsArePassed → (before : EdfState) (plain : Event) (given : Answer) (after : EdfState) → EdfApplies make before (edf_event.Plain plain) given after → is_own before (edf_event.Plain plain) ≡ false
    → IsRow before.region plain given after.region
other_row make law before plain given after h own =
    let row = passed law make before plain given after h own in
    record { reply = row.reply; applies = row.applies; answers = row.answers }

-- ---- each event
is_row : (make : DisplayMaker) → HalfTurnsDecide → OwnEventsHaveOwnAnswers → ErasedEvents → ErasedEventsLeaveTheRegion → OtherEventsArePassed → (before : EdfState) (e : EdfEvent) (given : Answer) (after : EdfState) → EdfApplies make before e given after → IsItsRow before e given after
is_row make decide answers erased leave law before e given after h =
    record {
      own = λ own ends. leave make before e given after h (left_none answers erased make before e given after h own ends);
      ended = λ name a bytes is ends. ended_row make before name a bytes given after (subst (λ (x : EdfEvent). EdfApplies make before x given after) is h) ends;
      turn = λ name is own. turn_row make decide law before name given after (subst (λ (x : EdfEvent). EdfApplies make before x given after) is h) (subst (λ (x : EdfEvent). is_own before x ≡ false) is own);
      other = λ plain is own. other_row make law before plain given after (subst (λ (x : EdfEvent). EdfApplies make before x given after) is h) (subst (λ (x : EdfEvent). is_own before x ≡ false) is own);
    }

-- the event of a trace with this number
met : (make : DisplayMaker) (old : EdfState) (events : List EdfEvent) (answers : List Answer) (states : List EdfState) (n : ℕ) (e : EdfEvent) → Trace make old events answers states → slice_get events n ≡ Some e
    → (given : Answer) × (slice_get answers n ≡ Some given) × EdfApplies make (last_state old (take n states)) e given (last_state old (take (suc n) states))
unfolding Trace last_state
met make old [] gs ss n e trace is = cc
met make old (x ∷ es) [] ss n e trace is = absurd trace
met make old (x ∷ es) (g ∷ gs) [] n e trace is = absurd trace
met make old (x ∷ es) (g ∷ gs) (s ∷ ss) zero e trace is = let same : x ≡ e = cc in (g, refl, subst (λ (y : EdfEvent). EdfApplies make old y g s) same trace.0)
met make old (x ∷ es) (g ∷ gs) (s ∷ ss) (suc n) e trace is = met make s es gs ss n e trace.1 is

pub each_is_its_row : HalfTurnsDecide → OwnEventsHaveOwnAnswers → ErasedEvents → ErasedEventsLeaveTheRegion → OtherEventsArePassed → OfEachRun EachIsItsRow
each_is_its_row decide answers_own erased leave law make old events answers states trace n e is =
    let found = met make old events answers states n e trace is in
    let more : n + 1 ≡ suc n = omega arith in
    rw (found.1, more) (is_row make decide answers_own erased leave law (state_after_first old states n) e found.0 (state_after_first old states (suc n)) found.2)
