-- Watching changes nothing.
use Rattle.std.proofs.Common.{◌≡◌, ℕ, zero, suc, Bool, true, false, List, [], ◌∷◌, ◌++◌, map, take, Option, Some, None, refl, sym, ◌∙◌, ap, subst}
use Rattle.std.specs.Prelude.{if◌then◌else◌, is_some, not}
use Rattle.std.specs.List.{AllByRecursion}
use Rattle.std.proofs.lemmas.List.{map-append}
use Rattle.cx_code.specs.declared.image.Image.{Image}
use Rattle.cx_load.specs.Fault.{image_fault}
use Rattle.cx_load.specs.declared.fault.ImageFault.{ImageFault}
use Rattle.cx_region.specs.declared.changes.AlterReply.TheVariants as alter
use Rattle.cx_region.specs.declared.replies.Event.{Event}
use Rattle.cx_region.specs.declared.replies.Event.TheVariants as event
use Rattle.cx_region.specs.declared.replies.Reply.{Reply}
use Rattle.cx_region.specs.declared.replies.Reply.TheVariants as reply
use Rattle.cx_region.specs.State.{RegionState}
use Rattle.cx_region.specs.Tables.{terminal_of}
use Rattle.cx_region.specs.Events.{Run}
use Rattle.cx_region_laws.specs.Laws.Regions.{RegionRunsDecide}
use Rattle.cx_edf.specs.declared.answers.Answer.{Answer}
use Rattle.cx_edf.specs.declared.answers.Answer.TheVariants as answer
use Rattle.cx_edf.specs.declared.answers.EdfEvent.{EdfEvent}
use Rattle.cx_edf.specs.declared.answers.EdfEvent.TheVariants as edf_event
use Rattle.cx_edf.specs.Sessions.{Sessions}
use Rattle.cx_edf.specs.State.{EdfState, session_at}
use Rattle.cx_edf.specs.Steps.{EdfApplies, DisplayMaker, Door, Keeps, door_of}
use Rattle.cx_edf.specs.Erasure.{erasure, is_own, is_refused, left_in, left_of, region_replies}
use Rattle.cx_edf.specs.Runs.{Trace, last_state}
use Rattle.cx_edf.specs.Laws.Edf.{ErasedEvents, FrontsAreTraces, OffIsTheRegion, OtherEventsArePassed, OwnEventsHaveOwnAnswers, TheRegionIsOff, WhatIsLeftIsARun, event_ends_task, is_alteration, off_at}
use Rattle.cx_script_actions.specs.Effects.{ByFault, Performs}
use Rattle.cx_script_actions.specs.declared.actions.Action.TheVariants as action
use Rattle.cx_script.specs.Laws.Events.{program_event}
use Rattle.cx_headline.specs.Laws.Runs.{OfEachRun, state_after_first}
use Rattle.cx_headline.specs.Laws.Watching.{AltersNothing, IsAsUnwatched, ShowingChangesNothing, answered_in, answered_of, left_of_first, replies_of_first}
use Rattle.cx_headline.proofs.RowLemmas.{left_none}

abbrev events_in : List (Event × Reply) → List Event
events_in answered = map (λ (p : Event × Reply). p.0) answered

abbrev replies_in : List (Event × Reply) → List Reply
replies_in answered = map (λ (p : Event × Reply). p.1) answered

-- ---- of one event
region_left : (e : Event) (r : Reply) → (r ≡ reply.Alter alter.Altered → ⊥)
    → (if is_refused e r then [] else (e, r) ∷ []) ≡ answered_of (edf_event.Plain e) (answer.Region r)
region_left (event.Alter name c) (reply.Alter alter.Altered) never = absurd (never refl)
region_left (event.Alter name c) (reply.Alter _) never = refl
region_left (event.Alter name c) _ never = refl
region_left _ r never = refl

left_passed : OtherEventsArePassed → (old : EdfState) (e : Event) (r : Reply) → is_own old (edf_event.Plain e) ≡ false → (r ≡ reply.Alter alter.Altered → ⊥)
    → left_of old (edf_event.Plain e) (answer.Region r) ≡ answered_of (edf_event.Plain e) (answer.Region r)
unfolding left_of
left_passed law old e r own never = ap (λ (door : Door). left_in door (answer.Region r)) (law old e own) ∙ region_left e r never

-- nothing is left of EDF ON and EDF OFF
left_neither : (b c : Bool) (mine yours theirs : Answer) (one two three : Sessions) (given : Answer) → left_in (if b then Keeps mine one else if c then Keeps yours two else Keeps theirs three) given ≡ []
left_neither true c mine yours theirs one two three given = refl
left_neither false true mine yours theirs one two three given = refl
left_neither false false mine yours theirs one two three given = refl

left_switched : (old : EdfState) (name : List ℕ) (given : Answer) → (left_of old (edf_event.On name) given ≡ []) × (left_of old (edf_event.Off name) given ≡ [])
unfolding left_of door_of
left_switched old name given = (
  left_neither (not (is_some (terminal_of old.region name))) (is_some (session_at old name)) _ _ _ _ _ _ given,
  left_neither (not (is_some (terminal_of old.region name))) (is_some (session_at old name)) _ _ _ _ _ _ given,
)

left_answered : OwnEventsHaveOwnAnswers → ErasedEvents → OtherEventsArePassed → (make : DisplayMaker) (old : EdfState) (e : EdfEvent) (given : Answer) (new : EdfState) → EdfApplies make old e given new → event_ends_task old e ≡ false
    → (given ≡ answer.Region (reply.Alter alter.Altered) → ⊥) → left_of old e given ≡ answered_of e given
left_answered answers erases law make old (edf_event.On name) given new h ends never = (left_switched old name given).0
left_answered answers erases law make old (edf_event.Off name) given new h ends never = (left_switched old name given).1
left_answered answers erases law make old (edf_event.Plain e) (answer.Region r) new h ends never =
    left_passed law old e r (answers make old (edf_event.Plain e) (answer.Region r) new h) (λ is. never (ap (λ x. answer.Region x) is))
left_answered answers erases law make old (edf_event.Plain e) answer.ToEdf new h ends never =
    left_none answers erases make old (edf_event.Plain e) answer.ToEdf new h (answers make old (edf_event.Plain e) answer.ToEdf new h) ends
left_answered answers erases law make old (edf_event.Plain e) answer.Held new h ends never =
    left_none answers erases make old (edf_event.Plain e) answer.Held new h (answers make old (edf_event.Plain e) answer.Held new h) ends
left_answered answers erases law make old (edf_event.Plain e) answer.NotStopped new h ends never =
    left_none answers erases make old (edf_event.Plain e) answer.NotStopped new h (answers make old (edf_event.Plain e) answer.NotStopped new h) ends
left_answered answers erases law make old (edf_event.Plain e) (answer.Edf r) new h ends never =
    left_none answers erases make old (edf_event.Plain e) (answer.Edf r) new h (answers make old (edf_event.Plain e) (answer.Edf r) new h) ends

-- ---- of a trace's front
pub left_so_far : FrontsAreTraces → WhatIsLeftIsARun → (make : DisplayMaker) (old : EdfState) (events : List EdfEvent) (answers : List Answer) (states : List EdfState) → Trace make old events answers states
    → (n : ℕ) → Run old.region (left_of_first old events answers states n) (replies_of_first old events answers states n) (state_after_first old states n).region
left_so_far fronts law make old events answers states trace n =
    law make old (take n events) (take n answers) (take n states) (fronts make old events answers states n trace)

left_of_front : OwnEventsHaveOwnAnswers → ErasedEvents → OtherEventsArePassed → (make : DisplayMaker) (old : EdfState) (events : List EdfEvent) (answers : List Answer) (states : List EdfState) (n : ℕ) → Trace make old events answers states
    → AltersNothing old events answers states
    → (left_of_first old events answers states n ≡ events_in (answered_in (take n events) (take n answers)))
    × (replies_of_first old events answers states n ≡ replies_in (answered_in (take n events) (take n answers)))
unfolding Trace erasure region_replies answered_in last_state
left_of_front answers_own erases law make old es gs ss zero trace still = (refl, refl)
left_of_front answers_own erases law make old [] [] [] (suc n) trace still = (refl, refl)
left_of_front answers_own erases law make old [] [] (s ∷ ss) (suc n) trace still = absurd trace
left_of_front answers_own erases law make old [] (g ∷ gs) ss (suc n) trace still = absurd trace
left_of_front answers_own erases law make old (e ∷ es) [] ss (suc n) trace still = absurd trace
left_of_front answers_own erases law make old (e ∷ es) (g ∷ gs) [] (suc n) trace still = absurd trace
left_of_front answers_own erases law make old (e ∷ es) (g ∷ gs) (s ∷ ss) (suc n) trace still =
    let here = still zero e refl in
    let one : left_of old e g ≡ answered_of e g = left_answered answers_own erases law make old e g s trace.0 here.0 (λ is. here.1 (ap Some is)) in
    let rest = left_of_front answers_own erases law make s es gs ss n trace.1 (λ m x is. still (suc m) x is) in
    let more = answered_in (take n es) (take n gs) in
    ((λ i. events_in (one i) ++ rest.0 i) ∙ sym (map-append (λ (p : Event × Reply). p.0) (answered_of e g) more), (λ i. replies_in (one i) ++ rest.1 i) ∙ sym (map-append (λ (p : Event × Reply). p.1) (answered_of e g) more))

-- ---- with EDF Off
one_more : (b : Bool) (e : Event) (r : Reply) (rest : List (Event × Reply)) → is_alteration e ≡ b → AllByRecursion (λ x. is_alteration x ≡ false) (events_in rest)
    → AllByRecursion (λ x. is_alteration x ≡ false) (events_in ((if b then [] else (e, r) ∷ []) ++ rest))
one_more true e r rest is all = all
one_more false e r rest is all = (is, all)

no_alterations : (events : List EdfEvent) (answers : List Answer) → AllByRecursion (λ x. is_alteration x ≡ false) (events_in (answered_in events answers))
unfolding answered_in
no_alterations [] gs = tt
no_alterations (e ∷ es) [] = tt
no_alterations (edf_event.Plain e ∷ es) (answer.Region r ∷ gs) = one_more (is_alteration e) e r (answered_in es gs) refl (no_alterations es gs)
no_alterations (_ ∷ es) (_ ∷ gs) = no_alterations es gs

off_same : RegionRunsDecide → OffIsTheRegion → (old : EdfState) (left : List Event) (replies : List Reply) (region : RegionState) → AllByRecursion (λ e. is_alteration e ≡ false) left
    → Run old.region left replies region → (make : DisplayMaker) (others : List Answer) (states : List EdfState)
    → Trace make (off_at old.region) (map (λ e. edf_event.Plain e) left) others states
    → (others ≡ map (λ r. answer.Region r) replies) × ((last_state (off_at old.region) states).region ≡ region)
off_same decide law old left replies region all plain make others states trace =
    let off = law make (off_at old.region) left others states refl all trace in
    let same = decide old.region left off.0 replies (last_state (off_at old.region) states).region region off.1 plain in
    (off.2 ∙ ap (map (λ r. answer.Region r)) same.0, same.1)

-- ---- the same states
-- what the proof cites
pub record WatchLaws : Type 0 where
  pub decide : RegionRunsDecide
  pub fronts : FrontsAreTraces
  pub whole : WhatIsLeftIsARun
  pub own : OwnEventsHaveOwnAnswers
  pub erased : ErasedEvents
  pub passed : OtherEventsArePassed
  pub off : OffIsTheRegion
  pub exists : TheRegionIsOff

pub same_states : WatchLaws → OfEachRun IsAsUnwatched
same_states laws make old events answers states trace =
    record {
      plain = plain;
      only = λ n replies after h. laws.decide old.region (left_of_first old events answers states n) replies (replies_of_first old events answers states n) after (state_after_first old states n).region h (plain n);
      unaltered = λ still n.
          let left = left_of_front laws.own laws.erased laws.passed make old events answers states n trace still in
          let all = subst (λ (es : List Event). AllByRecursion (λ e. is_alteration e ≡ false) es) (sym left.0) (no_alterations (take n events) (take n answers)) in
          record {
            events_left = left.0;
            replies_left = left.1;
            off = λ other. laws.exists other old.region (left_of_first old events answers states n) (replies_of_first old events answers states n) (state_after_first old states n).region all (plain n);
            only_off = off_same laws.decide laws.off old (left_of_first old events answers states n) (replies_of_first old events answers states n) (state_after_first old states n).region all (plain n);
          };
    }
  where
    plain : (n : ℕ) → Run old.region (left_of_first old events answers states n) (replies_of_first old events answers states n) (state_after_first old states n).region
    plain = left_so_far laws.fronts laws.whole make old events answers states trace

-- ---- what is shown
by_fault : (make : DisplayMaker) (fault : Option ImageFault) (old : EdfState) (name : List ℕ) (image : Image) (text : List ℕ) (new : EdfState) → ByFault make fault old name image text new → program_event fault name image ≡ None → new ≡ old
by_fault make None old name image text new does none = cc
by_fault make (Some fault) old name image text new does none = does.1

pub showing_changes_nothing : ShowingChangesNothing
unfolding Performs
showing_changes_nothing make old (action.Image name image) text new none h = by_fault make (image_fault image) old name image text new h none
showing_changes_nothing make old (action.Source name before image) text new none h = by_fault make (image_fault image) old name image h.0 new h.1 none
showing_changes_nothing make old (action.Event event) text new none h = cc
showing_changes_nothing make old (action.Screen name) text new none h = h.1
showing_changes_nothing make old (action.Display name) text new none h = h.1
showing_changes_nothing make old (action.Previous name k) text new none h = h.1
