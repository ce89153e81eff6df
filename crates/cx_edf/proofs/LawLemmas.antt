-- The laws of events and runs under EDF.
use Rattle.std.proofs.Common.{◌≡◌, ℕ, Bool, true, false, List, [], ◌∷◌, ◌++◌, map, Option, Some, None, refl, sym, ap, ◌∙◌, subst}
use Rattle.std.specs.Prelude.{MatchOption, ◌&&◌, ◌||◌, ◌==◌, not, length, unwrap_or, if◌then◌else◌, is_some}
use Rattle.std.specs.Option.{option_and_then, option_map_or}
use Rattle.std.proofs.lemmas.Bool.{true≢false}
use Rattle.std.proofs.lemmas.Option.{none-some}
use Rattle.cx_edf.specs.declared.displays.Display.{Display}
use Rattle.cx_edf.specs.declared.stops.StopPoint.{StopPoint}
use Rattle.cx_region.specs.State.{RegionState, TerminalState}
use Rattle.cx_region.specs.Tables.{task_of, terminal_of}
use Rattle.cx_region.specs.Events.{Applies, Run}
use Rattle.cx_region.specs.Turn.{TaskTakesTurn, TakesTurn}
use Rattle.cx_region_laws.specs.Laws.Regions.{EventsDecide, RegionRunsDecide}
use Rattle.cx_region.specs.declared.changes.AlterReply.TheVariants as alter
use Rattle.cx_region.specs.declared.changes.Change.TheVariants as change
use Rattle.cx_region.specs.declared.replies.Event.{Event}
use Rattle.cx_region.specs.declared.replies.Event.TheVariants as event
use Rattle.cx_region.specs.declared.replies.Reply.{Reply}
use Rattle.cx_region.specs.declared.replies.Reply.TheVariants as reply
use Rattle.cx_region_state.specs.declared.replies.TurnReply.{TurnReply}
use Rattle.cx_region_state.specs.declared.replies.TurnReply.TheVariants as turn
use Rattle.cx_region_state.specs.State.{TaskState}
use Rattle.cx_edf.specs.declared.answers.EdfEvent.{EdfEvent}
use Rattle.cx_edf.specs.declared.answers.EdfEvent.TheVariants as edf_event
use Rattle.cx_edf.specs.declared.answers.Answer.{Answer}
use Rattle.cx_edf.specs.declared.answers.Answer.TheVariants as answer
use Rattle.cx_edf.specs.declared.modes.Mode.{Mode}
use Rattle.cx_edf.specs.declared.modes.Mode.TheVariants as mode
use Rattle.cx_edf.specs.Sessions.{Sessions, is_stopped, session_in, stop_of, takes_in}
use Rattle.cx_edf.specs.State.{EdfState, stopped_at}
use Rattle.cx_edf.specs.Steps.{DisplayMaker, DoorAnswers, Door, EdfApplies, Keeps, PassesOn, Passes, door_of, sessions_after}
use Rattle.cx_edf.specs.Erasure.{is_own, is_refused, left_in, left_of, region_replies}
use Rattle.cx_edf.specs.Runs.{Trace, last_state}
use Rattle.cx_edf.specs.Laws.Edf.{EdfEventsDecide, EdfRunsDecide, ErasedEvents, ErasedEventsLeaveTheRegion, OffIsTheRegion, OtherEventsArePassed, OwnEventsHaveOwnAnswers, PlainRunsAgree, StopsAreMissedUnderSuppression, ReportedAreThoseGiven, TheRegionIsOff, event_ends_task, given_by, given_in, is_alteration, is_edfs, is_refusal, off_at}
use Rattle.cx_edf.proofs.DoorLemmas.{Fits, answers_itself, fits, own_at_door}
use Rattle.cx_edf.proofs.StepLemmas.{left_runs}
use Rattle.cx_edf.proofs.TraceLemmas.{what_is_left_is_a_run}

-- ---- one outcome
same_state : (a b : EdfState) → a.region ≡ b.region → a.sessions ≡ b.sessions → a ≡ b
same_state a b regions sessions = λ i. record { region = regions i; sessions = sessions i }

done_decides : (make : DisplayMaker) → EventsDecide → (old : EdfState) (door : Door) (given other : Answer) (new later : EdfState)
    → DoorAnswers make old door given new → DoorAnswers make old door other later → (given ≡ other) × (new ≡ later)
done_decides make decide old (Keeps own sessions) given other new later h k = (h.0 ∙ sym k.0, h.1 ∙ sym k.1)
done_decides make decide old (Passes e own) given other new later h k =
    let same = decide old.region e h.reply k.reply new.region later.region h.applies k.applies in (
      h.answers ∙ ap (λ r. unwrap_or own (answer.Region r)) same.0 ∙ sym k.answers,
      same_state new later same.1 (h.table ∙ (λ i. sessions_after old.sessions e (same.0 i) (make (same.1 i))) ∙ sym k.table),
    )

pub edf_events_decide : EventsDecide → EdfEventsDecide
unfolding EdfApplies
edf_events_decide decide make old e given other new later h k = done_decides make decide old (door_of old e) given other new later h k

traces_decide : (make : DisplayMaker) → EdfEventsDecide → (old : EdfState) (events : List EdfEvent) (answers others : List Answer) (states more : List EdfState)
    → Trace make old events answers states → Trace make old events others more → (answers ≡ others) × (states ≡ more)
unfolding Trace
traces_decide make decide old [] [] [] [] [] h k = (refl, refl)
traces_decide make decide old [] [] [] [] (t ∷ ts) h k = absurd k
traces_decide make decide old [] [] (o ∷ os) [] ts h k = absurd k
traces_decide make decide old [] [] os (s ∷ ss) ts h k = absurd h
traces_decide make decide old [] (g ∷ gs) os ss ts h k = absurd h
traces_decide make decide old (e ∷ es) [] os ss ts h k = absurd h
traces_decide make decide old (e ∷ es) (g ∷ gs) os [] ts h k = absurd h
traces_decide make decide old (e ∷ es) (g ∷ gs) [] (s ∷ ss) ts h k = absurd k
traces_decide make decide old (e ∷ es) (g ∷ gs) (o ∷ os) (s ∷ ss) [] h k = absurd k
traces_decide make decide old (e ∷ es) (g ∷ gs) (o ∷ os) (s ∷ ss) (t ∷ ts) h k =
    let first = decide make old e g o s t h.0 k.0 in
    let rest = traces_decide make decide t es gs os ss ts (subst (λ (x : EdfState). Trace make x es gs ss) first.1 h.1) k.1 in
    (λ i. first.0 i ∷ rest.0 i, λ i. first.1 i ∷ rest.1 i)

pub edf_runs_decide : EventsDecide → EdfRunsDecide
edf_runs_decide decide make old events answers others new later h k =
    let same = traces_decide make (edf_events_decide decide) old events answers others h.states k.states h.trace k.trace in
    (same.0, sym h.ends ∙ ap (last_state old) same.1 ∙ k.ends, same.1)

-- ---- watching changes nothing
pub a_plain_run_agrees : RegionRunsDecide → PlainRunsAgree
a_plain_run_agrees decide make old events answers states trace replies after plain =
    decide old.region _ replies _ after (last_state old states).region plain (what_is_left_is_a_run make old events answers states trace)

own_answer : (make : DisplayMaker) (old : EdfState) (e : EdfEvent) (door : Door) (given : Answer) (new : EdfState) → Fits old e door → DoorAnswers make old door given new → answers_itself door ≡ is_edfs given
unfolding Fits answers_itself
own_answer make old e (Keeps own sessions) given new fit row = sym fit.0 ∙ ap is_edfs (sym row.0)
own_answer make old e (Passes x None) given new fit row = ap is_edfs (sym row.answers)
own_answer make old e (Passes x (Some own)) given new fit row = ap is_edfs (sym (row.answers ∙ fit.1.own_answer))

pub own_answers : OwnEventsHaveOwnAnswers
unfolding EdfApplies
own_answers make old e given new row = own_at_door old e ∙ own_answer make old e (door_of old e) given new (fits old e) row

-- EDF's own answer refuses no alteration of the region's
never_refused : (e : EdfEvent) (given : Answer) → is_edfs given ≡ true → is_refusal e given ≡ false
never_refused (edf_event.Plain e) (answer.Region r) own = absurd (true≢false (sym own))
never_refused (edf_event.Plain e) _ own = refl
never_refused (edf_event.On name) given own = refl
never_refused (edf_event.Off name) given own = refl

-- what is replied, and whether anything is left
record IsLeft (old : EdfState) (e : EdfEvent) (given : Answer) (left : List (Event × Reply)) : Type 0 where
  pub reported : map (λ (p : Event × Reply). p.1) left ≡ given_by old e given
  pub none : (length left == 0) ≡ ((is_edfs given && not (event_ends_task old e)) || is_refusal e given)

kept : (old : EdfState) (e : EdfEvent) (given : Answer) → is_edfs given ≡ true → event_ends_task old e ≡ false → IsLeft old e given []
kept old e given own ends = record { reported = rw (ends, own) refl; none = rw (own, ends) refl }

ended : (old : EdfState) (e : EdfEvent) (given : Answer) (x : Event) → is_edfs given ≡ true → event_ends_task old e ≡ true → IsLeft old e given ((x, reply.Alter alter.Altered) ∷ [])
ended old e given x own ends = record { reported = rw ends refl; none = rw (own, ends, never_refused e given own) refl }

passed : (old : EdfState) (x : Event) (r : Reply) → event_ends_task old (edf_event.Plain x) ≡ false
    → IsLeft old (edf_event.Plain x) (answer.Region r) (if is_refused x r then [] else (x, r) ∷ [])
passed old x r ends = go (is_refused x r) refl
  where
    go : (b : Bool) → is_refused x r ≡ b → IsLeft old (edf_event.Plain x) (answer.Region r) (if b then [] else (x, r) ∷ [])
    go true is = record { reported = rw (ends, is) refl; none = rw is refl }
    go false is = record { reported = rw (ends, is) refl; none = rw is refl }

left_by : (make : DisplayMaker) (old : EdfState) (e : EdfEvent) (door : Door) (given : Answer) (new : EdfState) → Fits old e door → DoorAnswers make old door given new → IsLeft old e given (left_in door given)
unfolding Fits
left_by make old e (Keeps own sessions) given new fit row = kept old e given (ap is_edfs row.0 ∙ fit.0) fit.1
left_by make old e (Passes x None) given new fit row =
    subst (λ (a : Answer). IsLeft old e a (left_in (Passes x None) a)) (sym row.answers)
    (subst (λ (y : EdfEvent). IsLeft old y (answer.Region row.reply) (left_in (Passes x None) (answer.Region row.reply))) (sym fit.0)
    (passed old x row.reply (subst (λ (y : EdfEvent). event_ends_task old y ≡ false) fit.0 fit.1)))
left_by make old e (Passes x (Some own)) given new fit row =
    let is : given ≡ answer.ToEdf = row.answers ∙ fit.1.own_answer in
    subst (λ (a : Answer). IsLeft old e a (left_in (Passes x (Some own)) a)) (sym is)
    (subst (λ (y : Event). IsLeft old e answer.ToEdf (left_in (Passes y (Some own)) answer.ToEdf)) (sym fit.1.abend)
    (ended old e answer.ToEdf (event.Alter fit.1.name change.Abend) refl fit.0))

left_is : (make : DisplayMaker) (old : EdfState) (e : EdfEvent) (given : Answer) (new : EdfState) → EdfApplies make old e given new → IsLeft old e given (left_of old e given)
unfolding EdfApplies left_of
left_is make old e given new row = left_by make old e (door_of old e) given new (fits old e) row

pub reported_are_those_given : ReportedAreThoseGiven
unfolding Trace region_replies given_in
reported_are_those_given make old [] [] [] trace = refl
reported_are_those_given make old [] [] (s ∷ ss) trace = absurd trace
reported_are_those_given make old [] (g ∷ gs) ss trace = absurd trace
reported_are_those_given make old (e ∷ es) [] ss trace = absurd trace
reported_are_those_given make old (e ∷ es) (g ∷ gs) [] trace = absurd trace
reported_are_those_given make old (e ∷ es) (g ∷ gs) (s ∷ ss) trace =
    λ i. (left_is make old e g s trace.0).reported i ++ reported_are_those_given make s es gs ss trace.1 i

-- ---- what is erased
pub erased_events : ErasedEvents
erased_events make old e given new row = (left_is make old e given new row).none

nothing_runs : (old : RegionState) (replies : List Reply) (new : RegionState) → Run old [] replies new → new ≡ old
unfolding Run
nothing_runs old [] new run = run
nothing_runs old (r ∷ rs) new run = absurd run

pub erased_leave : ErasedEventsLeaveTheRegion
erased_leave make old e given new row none =
    nothing_runs old.region (map (λ (p : Event × Reply). p.1) (left_of old e given)) new.region
    (subst (λ (ps : List (Event × Reply)). Run old.region (map (λ (p : Event × Reply). p.0) ps) (map (λ (p : Event × Reply). p.1) (left_of old e given)) new.region) none (left_runs make old e given new row))

-- ---- no stop is missed
turn_without_task : (r : RegionState) (name : List ℕ) (given : TurnReply) (new : RegionState) (stop : StopPoint) → TakesTurn r name given new → is_some (task_of r name) ≡ false → stop_of given ≡ Some stop → ⊥
unfolding TakesTurn
turn_without_task r name given new stop h idle stops = by_terminal (terminal_of r name) h idle
  where
    never : (due : TurnReply) → stop_of due ≡ None → given ≡ due → ⊥
    never due none is = none-some stop (sym none ∙ ap stop_of (sym is) ∙ stops)

    by_task : (t : TerminalState) (o : Option TaskState) → MatchOption o ((given ≡ turn.Idle) × (new ≡ r)) (λ task. TaskTakesTurn r name t task given new) → is_some o ≡ false → ⊥
    by_task t None h idle = never turn.Idle refl h.0
    by_task t (Some task) h idle = true≢false idle

    by_terminal : (o : Option TerminalState) → MatchOption o ((given ≡ turn.NoSuchTerminal) × (new ≡ r)) (λ t. MatchOption t.task ((given ≡ turn.Idle) × (new ≡ r)) (λ task. TaskTakesTurn r name t task given new)) → is_some (option_and_then (λ t. t.task) o) ≡ false → ⊥
    by_terminal None h idle = never turn.NoSuchTerminal refl h.0
    by_terminal (Some t) h idle = by_task t t.task h idle

pub stops_are_missed : StopsAreMissedUnderSuppression
unfolding EdfApplies door_of Applies
stops_are_missed make old name r new session stop row there stops missed = by_mode session.mode refl missed
  where
    of_region : (x : Reply) → answer.Region (reply.Turn r) ≡ answer.Region x → Applies old.region (event.Turn name) x new.region → TakesTurn old.region name r new.region
    of_region x same applies = subst (λ (y : Reply). Applies old.region (event.Turn name) y new.region) (sym (let e : reply.Turn r ≡ x = cc in e)) applies

    held : (live : Bool) → is_some (task_of old.region name) ≡ live
        → DoorAnswers make old (if live then Keeps answer.Held old.sessions else Passes (event.Turn name) None) (answer.Region (reply.Turn r)) new → ⊥
    held true is row = let never : answer.Region (reply.Turn r) ≡ answer.Held = row.0 in cc
    held false is row = turn_without_task old.region name r new.region stop (of_region row.reply row.answers row.applies) is stops

    stopped : (k : StopPoint) → session.mode ≡ mode.Stopped k → stopped_at old name ≡ true
    stopped k is = ap (λ o. option_map_or (λ s. is_stopped s.mode) o false) there ∙ ap is_stopped is

    by_mode : (m : Mode) → session.mode ≡ m → takes_in m session.stops stop ≡ false → m ≡ mode.Suppressed
    by_mode mode.Free is missed = absurd (true≢false missed)
    by_mode (mode.Stopped k) is missed = absurd (held (is_some (task_of old.region name)) refl (rw (stopped k is) at row))
    by_mode mode.Suppressed is missed = refl

-- ---- what is passed
passed_as_it_is : (old : EdfState) (e : Event) (door : Door) → Fits old (edf_event.Plain e) door → answers_itself door ≡ false → door ≡ Passes e None
unfolding Fits answers_itself
passed_as_it_is old e (Keeps own sessions) fit none = absurd (true≢false none)
passed_as_it_is old e (Passes x None) fit none =
    let is : edf_event.Plain e ≡ edf_event.Plain x = fit.0 in
    ap (λ (y : Event). Passes y None) (let same : x ≡ e = cc in same)
passed_as_it_is old e (Passes x (Some own)) fit none = absurd (true≢false none)

pub others_are_passed : OtherEventsArePassed
others_are_passed old e none =
    passed_as_it_is old e (door_of old (edf_event.Plain e)) (fits old (edf_event.Plain e)) (sym (own_at_door old (edf_event.Plain e)) ∙ none)

-- ---- Off everywhere
record Plainly (make : DisplayMaker) (old : EdfState) (e : Event) (given : Answer) (new : EdfState) : Type 0 where
  pub reply : Reply
  pub applies : Applies old.region e reply new.region
  pub off : new.sessions ≡ []
  pub answers : given ≡ answer.Region reply

none_after : (sessions : Sessions) (e : Event) (r : Reply) (display_at : List ℕ → StopPoint → Display) → sessions ≡ [] → is_alteration e ≡ false
    → sessions_after sessions e r display_at ≡ []
none_after sessions (event.Turn name) (reply.Turn r) display_at off plain = rw off refl
none_after sessions (event.Turn name) _ display_at off plain = off
none_after sessions (event.Alter name c) r display_at off plain = absurd (true≢false plain)
none_after sessions _ r display_at off plain = off

not_stopped : (old : EdfState) (name : List ℕ) → old.sessions ≡ [] → stopped_at old name ≡ false
not_stopped old name off = ap (λ (s : Sessions). option_map_or (λ session. is_stopped session.mode) (session_in s name) false) off

-- no event of the region is EDF's own then, except an alteration
none_own : (old : EdfState) (e : Event) → old.sessions ≡ [] → is_alteration e ≡ false → is_own old (edf_event.Plain e) ≡ false
unfolding is_own
none_own old (event.Key name aid bytes) off plain = not_stopped old name off
none_own old (event.Turn name) off plain = ap (λ b. b && is_some (task_of old.region name)) (not_stopped old name off)
none_own old (event.Alter name c) off plain = absurd (true≢false plain)
none_own old _ off plain = refl

-- an event that isn't EDF's own is done by the region
pub passed_on : (make : DisplayMaker) (old : EdfState) (e : Event) (r : Reply) (new : RegionState) → is_own old (edf_event.Plain e) ≡ false → Applies old.region e r new
    → EdfApplies make old (edf_event.Plain e) (answer.Region r) (record { region = new; sessions = sessions_after old.sessions e r (make new) })
unfolding EdfApplies
passed_on make old e r new own applies =
    let after : EdfState = record { region = new; sessions = sessions_after old.sessions e r (make new) } in
    subst (λ (door : Door). DoorAnswers make old door (answer.Region r) after) (sym (others_are_passed old e own))
    (record { reply = r; applies = applies; table = refl; answers = refl })

plainly : (make : DisplayMaker) (old : EdfState) (e : Event) (given : Answer) (new : EdfState) → old.sessions ≡ [] → is_alteration e ≡ false → EdfApplies make old (edf_event.Plain e) given new
    → Plainly make old e given new
unfolding EdfApplies
plainly make old e given new off plain row =
    let passed : PassesOn make old e None given new = subst (λ (door : Door). DoorAnswers make old door given new) (others_are_passed old e (none_own old e off plain)) row in
    record { reply = passed.reply; applies = passed.applies; off = passed.table ∙ none_after old.sessions e passed.reply (make new.region) off plain; answers = passed.answers }

pub off_is_the_region : OffIsTheRegion
unfolding Trace last_state Run
off_is_the_region make old [] [] [] off plain trace = ([], refl, refl, off)
off_is_the_region make old [] [] (s ∷ ss) off plain trace = absurd trace
off_is_the_region make old [] (g ∷ gs) ss off plain trace = absurd trace
off_is_the_region make old (e ∷ es) [] ss off plain trace = absurd trace
off_is_the_region make old (e ∷ es) (g ∷ gs) [] off plain trace = absurd trace
off_is_the_region make old (e ∷ es) (g ∷ gs) (s ∷ ss) off plain trace =
    let first = plainly make old e g s off plain.0 trace.0 in
    let rest = off_is_the_region make s es gs ss first.off plain.1 trace.1 in
    (first.reply ∷ rest.0, (s.region, first.applies, rest.1), λ i. first.answers i ∷ rest.2 i, rest.3)

-- and the other way round
off_step : (make : DisplayMaker) (old : RegionState) (e : Event) (r : Reply) (new : RegionState) → is_alteration e ≡ false → Applies old e r new
    → EdfApplies make (off_at old) (edf_event.Plain e) (answer.Region r) (off_at new)
off_step make old e r new plain applies =
    subst (λ (s : Sessions). EdfApplies make (off_at old) (edf_event.Plain e) (answer.Region r) (record { region = new; sessions = s }))
    (none_after [] e r (make new) refl plain) (passed_on make (off_at old) e r new (none_own (off_at old) e refl plain) applies)

pub the_region_is_off : TheRegionIsOff
unfolding Trace last_state Run
the_region_is_off make old [] [] new plain run = record { states = []; trace = tt; ends = ap off_at (sym run) }
the_region_is_off make old [] (r ∷ rs) new plain run = absurd run
the_region_is_off make old (e ∷ es) [] new plain run = absurd run
the_region_is_off make old (e ∷ es) (r ∷ rs) new plain run =
    let rest = the_region_is_off make run.0 es rs new plain.1 run.2 in
    record {
      states = off_at run.0 ∷ rest.states;
      trace = (off_step make old e r run.0 plain.0 run.1, rest.trace);
      ends = rest.ends;
    }
