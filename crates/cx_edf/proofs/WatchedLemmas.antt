-- Every run of the region can be watched under EDF.
use Rattle.std.proofs.Common.{◌≡◌, ℕ, Bool, true, false, List, [], ◌∷◌, ◌++◌, map, Option, Some, None, refl, sym, ap, subst, is_some}
use Rattle.std.specs.Prelude.{◌&&◌, if◌then◌else◌, not}
use Rattle.std.specs.List.{AllByRecursion}
use Rattle.std.specs.Option.{option_map_or}
use Rattle.std.proofs.lemmas.Bool.{true≢false}
use Rattle.cx_ebcdic.specs.declared.aids.Aid.TheVariants as aid
use Rattle.cx_region.specs.State.{RegionState}
use Rattle.cx_region.specs.Tables.{task_of, terminal_of}
use Rattle.cx_region.specs.Events.{Applies, Run}
use Rattle.cx_region.specs.declared.replies.Event.{Event}
use Rattle.cx_region.specs.declared.replies.Event.TheVariants as event
use Rattle.cx_region.specs.declared.replies.Reply.{Reply}
use Rattle.cx_edf.specs.declared.answers.EdfEvent.{EdfEvent}
use Rattle.cx_edf.specs.declared.answers.EdfEvent.TheVariants as edf_event
use Rattle.cx_edf.specs.declared.answers.EdfReply.TheVariants as edf
use Rattle.cx_edf.specs.declared.answers.Answer.{Answer}
use Rattle.cx_edf.specs.declared.answers.Answer.TheVariants as answer
use Rattle.cx_edf.specs.Sessions.{SessionState, Sessions, after_key, fresh_session, is_stopped, session_in, with_session}
use Rattle.cx_edf.specs.State.{EdfState, session_at, stopped_at}
use Rattle.cx_edf.specs.Steps.{DisplayMaker, Door, DoorAnswers, EdfApplies, Keeps, Passes, door_of, sessions_after, with_session_changed}
use Rattle.cx_edf.specs.Erasure.{erasure, is_own, is_refused, left_in, left_of, region_replies}
use Rattle.cx_edf.specs.Runs.{Trace, last_state}
use Rattle.cx_edf.specs.Laws.Edf.{is_alteration}
use Rattle.cx_edf.specs.Laws.Watched.{AreWatched, RunsCanBeWatched, WatchedEvent, enter_before}
use Rattle.cx_edf.proofs.LawLemmas.{others_are_passed, passed_on}
use Rattle.cx_edf.proofs.LookupLemmas.{at_same}

-- events under EDF, of which these are left, with these replies, and which lead to this region
record Leaves (make : DisplayMaker) (old : EdfState) (events : List EdfEvent) (left : List Event) (replies : List Reply) (new : RegionState) : Type 0 where
  pub answers : List Answer
  pub states : List EdfState
  pub trace : Trace make old events answers states
  pub left_is : erasure old events answers states ≡ left
  pub replied : region_replies old events answers states ≡ replies
  pub ends : (last_state old states).region ≡ new

-- one more in front
leaves_more : (make : DisplayMaker) (old : EdfState) (e : EdfEvent) (given : Answer) (mid : EdfState) (of_it : List (Event × Reply)) (events : List EdfEvent) (left : List Event) (replies : List Reply) (new : RegionState)
    → EdfApplies make old e given mid → left_of old e given ≡ of_it → Leaves make mid events left replies new
    → Leaves make old (e ∷ events) (map (λ (p : Event × Reply). p.0) of_it ++ left) (map (λ (p : Event × Reply). p.1) of_it ++ replies) new
unfolding Trace erasure region_replies last_state
leaves_more make old e given mid of_it events left replies new applies is rest =
    record {
      answers = given ∷ rest.answers;
      states = mid ∷ rest.states;
      trace = (applies, rest.trace);
      left_is = λ i. map (λ (p : Event × Reply). p.0) (is i) ++ rest.left_is i;
      replied = λ i. map (λ (p : Event × Reply). p.1) (is i) ++ rest.replied i;
      ends = rest.ends;
    }

-- a state with this region
abbrev with_region : RegionState → Sessions → EdfState
with_region region sessions = record { region = region; sessions = sessions }

-- one that EDF keeps
keeps_more : (make : DisplayMaker) (region : RegionState) (sessions after : Sessions) (e : EdfEvent) (own : Answer) (events : List EdfEvent) (left : List Event) (replies : List Reply) (new : RegionState)
    → door_of (with_region region sessions) e ≡ Keeps own after → Leaves make (with_region region after) events left replies new
    → Leaves make (with_region region sessions) (e ∷ events) left replies new
unfolding EdfApplies left_of
keeps_more make region sessions after e own events left replies new is rest =
    leaves_more make (with_region region sessions) e own (with_region region after) [] events left replies new
    (subst (λ (door : Door). DoorAnswers make (with_region region sessions) door own (with_region region after)) (sym is) (refl, refl))
    (ap (λ (door : Door). left_in door own) is) rest

-- one that is the region's
not_refused : (e : Event) (r : Reply) → is_alteration e ≡ false → is_refused e r ≡ false
not_refused (event.Alter name c) r plain = absurd (true≢false plain)
not_refused _ r plain = refl

left_whole : (old : EdfState) (e : Event) (r : Reply) → is_own old (edf_event.Plain e) ≡ false → is_alteration e ≡ false → left_of old (edf_event.Plain e) (answer.Region r) ≡ (e, r) ∷ []
unfolding left_of
left_whole old e r own plain = rw (others_are_passed old e own, not_refused e r plain) refl

passes_more : (make : DisplayMaker) (region between : RegionState) (sessions : Sessions) (e : Event) (r : Reply) (events : List EdfEvent) (left : List Event) (replies : List Reply) (new : RegionState)
    → is_own (with_region region sessions) (edf_event.Plain e) ≡ false → is_alteration e ≡ false → Applies region e r between
    → Leaves make (with_region between (sessions_after sessions e r (make between))) events left replies new
    → Leaves make (with_region region sessions) (edf_event.Plain e ∷ events) (e ∷ left) (r ∷ replies) new
passes_more make region between sessions e r events left replies new own plain applies rest =
    leaves_more make (with_region region sessions) (edf_event.Plain e) (answer.Region r) (with_region between (sessions_after sessions e r (make between))) ((e, r) ∷ []) events left replies new
    (passed_on make (with_region region sessions) e r between own applies) (left_whole (with_region region sessions) e r own plain) rest

-- ---- EDF ON
one_kept : (b c : Bool) (x y z : Answer) (one two three : Sessions) → (own : Answer) × (after : Sessions) × ((if b then Keeps x one else if c then Keeps y two else Keeps z three) ≡ Keeps own after)
one_kept true c x y z one two three = (x, one, refl)
one_kept false true x y z one two three = (y, two, refl)
one_kept false false x y z one two three = (z, three, refl)

begins : (state : EdfState) (name : List ℕ) → (own : Answer) × (after : Sessions) × (door_of state (edf_event.On name) ≡ Keeps own after)
unfolding door_of
begins state name =
    one_kept (not (is_some (terminal_of state.region name))) (is_some (session_at state name)) (answer.Edf edf.NoSuchTerminal) (answer.Edf edf.AlreadyOn) (answer.Edf edf.Started)
    state.sessions state.sessions (with_session state.sessions name (Some fresh_session))

-- what leads on from other sessions does so from these, after some events
abbrev LeadsTo : DisplayMaker → RegionState → Sessions → List EdfEvent → Sessions → Type 0
LeadsTo make region sessions first after = (events : List EdfEvent) (left : List Event) (replies : List Reply) (new : RegionState)
    → Leaves make (with_region region after) events left replies new → Leaves make (with_region region sessions) (first ++ events) left replies new

begin_all : (make : DisplayMaker) (region : RegionState) (names : List (List ℕ)) (sessions : Sessions) → (after : Sessions) × LeadsTo make region sessions (map (λ name. edf_event.On name) names) after
begin_all make region [] sessions = (sessions, λ events left replies new rest. rest)
begin_all make region (name ∷ names) sessions =
    let one = begins (with_region region sessions) name in
    let more = begin_all make region names one.1 in (
      more.0,
      λ events left replies new rest.
          keeps_more make region sessions one.1 (edf_event.On name) one.0 (map (λ n. edf_event.On n) names ++ events) left replies new one.2 (more.1 events left replies new rest),
    )

-- ---- ENTER
if_true : (b : Bool) (x y : Door) → b ≡ true → (if b then x else y) ≡ x
if_true true x y is = refl
if_true false x y is = absurd (true≢false (sym is))

entered : Sessions → List ℕ → Sessions
entered sessions name = with_session_changed sessions name (λ session. after_key session aid.Enter [])

enters : (region : RegionState) (sessions : Sessions) (name : List ℕ) → stopped_at (with_region region sessions) name ≡ true
    → door_of (with_region region sessions) (edf_event.Plain (event.Key name aid.Enter [])) ≡ Keeps answer.ToEdf (entered sessions name)
unfolding door_of entered
enters region sessions name is =
    if_true (stopped_at (with_region region sessions) name) (Keeps answer.ToEdf (with_session_changed sessions name (λ session. after_key session aid.Enter []))) (Passes (event.Key name aid.Enter []) None) is

freed : (region : RegionState) (sessions : Sessions) (name : List ℕ) → stopped_at (with_region region (entered sessions name)) name ≡ false
unfolding entered after_key
freed region sessions name = by_session (session_in sessions name) refl
  where
    by_session : (o : Option SessionState) → session_in sessions name ≡ o
        → option_map_or (λ session. is_stopped session.mode) (session_in (option_map_or (λ session. with_session sessions name (after_key session aid.Enter [])) o sessions) name) false ≡ false
    by_session None is = ap (λ (o : Option SessionState). option_map_or (λ session. is_stopped session.mode) o false) is
    by_session (Some s) is = ap (λ (o : Option SessionState). option_map_or (λ session. is_stopped session.mode) o false) (at_same sessions name (after_key s aid.Enter []))

record GoesOn (make : DisplayMaker) (region : RegionState) (sessions : Sessions) (name : List ℕ) : Type 0 where
  pub was : Bool
  pub after : Sessions
  pub free : stopped_at (with_region region after) name ≡ false
  pub leads : LeadsTo make region sessions (if was then edf_event.Plain (event.Key name aid.Enter []) ∷ [] else []) after

goes_on : (make : DisplayMaker) (region : RegionState) (sessions : Sessions) (name : List ℕ) → GoesOn make region sessions name
goes_on make region sessions name = by_mode (stopped_at (with_region region sessions) name) refl
  where
    by_mode : (b : Bool) → stopped_at (with_region region sessions) name ≡ b → GoesOn make region sessions name
    by_mode false is = record { was = false; after = sessions; free = is; leads = λ events left replies new rest. rest }
    by_mode true is =
        record {
          was = true;
          after = entered sessions name;
          free = freed region sessions name;
          leads = λ events left replies new rest.
              keeps_more make region sessions (entered sessions name) (edf_event.Plain (event.Key name aid.Enter [])) answer.ToEdf events left replies new (enters region sessions name is) rest;
        }

-- then an event of the terminal is the region's
record IsReady (make : DisplayMaker) (region : RegionState) (sessions : Sessions) (e : Event) : Type 0 where
  pub was : Bool
  pub after : Sessions
  pub own : is_own (with_region region after) (edf_event.Plain e) ≡ false
  pub leads : LeadsTo make region sessions (if was then enter_before e else []) after

ready : (make : DisplayMaker) (region : RegionState) (sessions : Sessions) (e : Event) → is_alteration e ≡ false → IsReady make region sessions e
unfolding is_own
ready make region sessions (event.Key name a bytes) plain =
    let on = goes_on make region sessions name in record { was = on.was; after = on.after; own = on.free; leads = on.leads }
ready make region sessions (event.Turn name) plain =
    let on = goes_on make region sessions name in
    record { was = on.was; after = on.after; own = ap (λ b. b && is_some (task_of region name)) on.free; leads = on.leads }
ready make region sessions (event.Alter name c) plain = absurd (true≢false plain)
ready make region sessions _ plain = record { was = false; after = sessions; own = refl; leads = λ events left replies new rest. rest }

-- ---- runs
record Watches (make : DisplayMaker) (region : RegionState) (sessions : Sessions) (plan : List WatchedEvent) (replies : List Reply) (new : RegionState) : Type 0 where
  pub watched : List EdfEvent
  pub are : AreWatched plan watched
  pub leaves : Leaves make (with_region region sessions) watched (map (λ (one : WatchedEvent). one.1) plan) replies new

watches : (make : DisplayMaker) (region : RegionState) (sessions : Sessions) (plan : List WatchedEvent) (replies : List Reply) (new : RegionState)
    → AllByRecursion (λ one. is_alteration one.1 ≡ false) plan → Run region (map (λ one. one.1) plan) replies new → Watches make region sessions plan replies new
unfolding Run Trace AreWatched erasure region_replies last_state
watches make region sessions [] [] new plain run =
    record { watched = []; are = refl; leaves = record { answers = []; states = []; trace = tt; left_is = refl; replied = refl; ends = sym run } }
watches make region sessions [] (r ∷ rs) new plain run = absurd run
watches make region sessions (one ∷ plan) [] new plain run = absurd run
watches make region sessions (one ∷ plan) (r ∷ rs) new plain run =
    let begun = begin_all make region one.0 sessions in
    let on = ready make region begun.0 one.1 plain.0 in
    let rest = watches make run.0 (sessions_after on.after one.1 r (make run.0)) plan rs new plain.1 run.2 in
    let here = passes_more make region run.0 on.after one.1 r rest.watched (map (λ (x : WatchedEvent). x.1) plan) rs new on.own plain.0 run.1 rest.leaves in
    record {
      watched = map (λ name. edf_event.On name) one.0 ++ ((if on.was then enter_before one.1 else []) ++ edf_event.Plain one.1 ∷ rest.watched);
      are = (on.was, rest.watched, refl, rest.are);
      leaves = begun.1 _ _ _ _ (on.leads _ _ _ _ here);
    }

pub runs_can_be_watched : RunsCanBeWatched
runs_can_be_watched make old plan replies new plain run =
    let it = watches make old.region old.sessions plan replies new plain run in
    record {
      watched = it.watched;
      are = it.are;
      answers = it.leaves.answers;
      states = it.leaves.states;
      trace = it.leaves.trace;
      left = it.leaves.left_is;
      replied = it.leaves.replied;
      ends = it.leaves.ends;
    }
