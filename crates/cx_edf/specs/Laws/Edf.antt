-- What follows from the definitions of events and runs under EDF.
use Rattle.std.specs.Prelude.{◌≡◌, ℕ, Bool, true, false, not, ◌&&◌, ◌||◌, ◌==◌, List, [], ◌∷◌, ◌++◌, length, map, take, Option, None, Some, if◌then◌else◌}
use Rattle.std.specs.List.{AllByRecursion}
use Rattle.cx_region.specs.State.{RegionState}
use Rattle.cx_ebcdic.specs.Names.{is_name}
use Rattle.cx_region.specs.Events.{Run}
use Rattle.cx_region.specs.declared.replies.Event.{Event}
use Rattle.cx_region.specs.declared.replies.Event.TheVariants as event
use Rattle.cx_region.specs.declared.replies.Reply.{Reply}
use Rattle.cx_region.specs.declared.replies.Reply.TheVariants as reply
use Rattle.cx_region.specs.declared.changes.AlterReply.TheVariants as alter
use Rattle.cx_region_state.specs.declared.replies.TurnReply.{TurnReply}
use Rattle.cx_edf.specs.declared.stops.StopPoint.{StopPoint}
use Rattle.cx_edf.specs.declared.modes.Mode.TheVariants as mode
use Rattle.cx_edf.specs.declared.answers.EdfEvent.{EdfEvent}
use Rattle.cx_edf.specs.declared.answers.EdfEvent.TheVariants as edf_event
use Rattle.cx_edf.specs.declared.answers.Answer.{Answer}
use Rattle.cx_edf.specs.declared.answers.Answer.TheVariants as answer
use Rattle.cx_edf.specs.Sessions.{SessionState, Sessions, session_in, stop_of, takes_in, with_session}
use Rattle.cx_edf.specs.State.{EdfState, ends_by_key, session_at}
use Rattle.cx_edf.specs.Steps.{DisplayMaker, EdfApplies, Passes, door_of}
use Rattle.cx_edf.specs.Erasure.{erasure, is_own, is_refused, left_of, reply_in, region_replies}
use Rattle.cx_edf.specs.Runs.{EdfRun, Trace, last_state}

-- ---- traces
-- an answered event after others is one more of them
abbrev pub EventsAreSteps : Type 0
EventsAreSteps = (make : DisplayMaker) (old : EdfState) (events : List EdfEvent) (answers : List Answer)
    (states : List EdfState) (e : EdfEvent) (given : Answer) (new : EdfState)
    → Trace make old events answers states → EdfApplies make (last_state old states) e given new
    → Trace make old (events ++ e ∷ []) (answers ++ given ∷ []) (states ++ new ∷ [])
    × (last_state old (states ++ new ∷ []) ≡ new)

-- the first n events with their answers and states are a trace
abbrev pub FrontsAreTraces : Type 0
FrontsAreTraces = (make : DisplayMaker) (old : EdfState) (events : List EdfEvent) (answers : List Answer)
    (states : List EdfState) (n : ℕ)
    → Trace make old events answers states → Trace make old (take n events) (take n answers) (take n states)

-- ---- one outcome
-- two outcomes of one event under EDF are equal
abbrev pub EdfEventsDecide : Type 0
EdfEventsDecide = (make : DisplayMaker) (old : EdfState) (e : EdfEvent) (given other : Answer) (new later : EdfState)
    → EdfApplies make old e given new → EdfApplies make old e other later → (given ≡ other) × (new ≡ later)

-- two outcomes of one run under EDF are equal, up to each event
abbrev pub EdfRunsDecide : Type 0
EdfRunsDecide = (make : DisplayMaker) (old : EdfState) (events : List EdfEvent) (answers others : List Answer)
    (new later : EdfState) (run : EdfRun make old events answers new) (other : EdfRun make old events others later)
    → (answers ≡ others) × (new ≡ later) × (run.states ≡ other.states)

-- ---- watching changes nothing
-- what is left of events without EDF is a run of the region alone, with the region's replies
abbrev pub WhatIsLeftIsARun : Type 0
WhatIsLeftIsARun = (make : DisplayMaker) (old : EdfState) (events : List EdfEvent) (answers : List Answer)
    (states : List EdfState) → Trace make old events answers states
    → Run old.region (erasure old events answers states) (region_replies old events answers states)
    (last_state old states).region

-- whatever a run of the region alone does with the events that are left, it is what was done under EDF
abbrev pub PlainRunsAgree : Type 0
PlainRunsAgree = (make : DisplayMaker) (old : EdfState) (events : List EdfEvent) (answers : List Answer)
    (states : List EdfState) → Trace make old events answers states
    → (replies : List Reply) (after : RegionState) → Run old.region (erasure old events answers states) replies after
    → (replies ≡ region_replies old events answers states) × (after ≡ (last_state old states).region)

-- the alteration that a key asks for is a PF12's that ends the task
abbrev pub event_ends_task : EdfState → EdfEvent → Bool
event_ends_task old (edf_event.Plain (event.Key name aid bytes)) = ends_by_key old name aid
event_ends_task old e = false

-- whether an answer is EDF's own
abbrev pub is_edfs : Answer → Bool
is_edfs (answer.Region r) = false
is_edfs _ = true

-- an alteration that the region refused
abbrev pub is_refusal : EdfEvent → Answer → Bool
is_refusal (edf_event.Plain e) (answer.Region r) = is_refused e r
is_refusal e given = false

-- The replies given under EDF: without EDF's own answers and those of refused alterations, and with Altered for a PF12
-- that ends a task.
abbrev pub given_by : EdfState → EdfEvent → Answer → List Reply
given_by old e given =
    if event_ends_task old e then reply.Alter alter.Altered ∷ []
    else if is_edfs given || is_refusal e given then [] else reply_in given ∷ []

unfoldable pub given_in : EdfState → List EdfEvent → List Answer → List EdfState → List Reply
given_in old (e ∷ events) (given ∷ answers) (new ∷ states) = given_by old e given ++ given_in new events answers states
given_in old _ _ _ = []

-- the replies of that run are those that were given under EDF
abbrev pub ReportedAreThoseGiven : Type 0
ReportedAreThoseGiven = (make : DisplayMaker) (old : EdfState) (events : List EdfEvent) (answers : List Answer)
    (states : List EdfState) → Trace make old events answers states
    → region_replies old events answers states ≡ given_in old events answers states

-- an event is EDF's own exactly where its answer is
abbrev pub OwnEventsHaveOwnAnswers : Type 0
OwnEventsHaveOwnAnswers = (make : DisplayMaker) (old : EdfState) (e : EdfEvent) (given : Answer) (new : EdfState)
    → EdfApplies make old e given new → is_own old e ≡ is_edfs given

-- Nothing is left of an event exactly where its answer is EDF's own, and it is no PF12 that ends a task; or where it is
-- a refused alteration.
abbrev pub ErasedEvents : Type 0
ErasedEvents = (make : DisplayMaker) (old : EdfState) (e : EdfEvent) (given : Answer) (new : EdfState)
    → EdfApplies make old e given new
    → (length (left_of old e given) == 0) ≡ ((is_edfs given && not (event_ends_task old e)) || is_refusal e given)

-- where nothing is left of an event, the region stays
abbrev pub ErasedEventsLeaveTheRegion : Type 0
ErasedEventsLeaveTheRegion = (make : DisplayMaker) (old : EdfState) (e : EdfEvent) (given : Answer) (new : EdfState)
    → EdfApplies make old e given new → left_of old e given ≡ [] → new.region ≡ old.region

-- ---- no stop is missed
-- a stop that a session doesn't take is met under suppression
abbrev pub StopsAreMissedUnderSuppression : Type 0
StopsAreMissedUnderSuppression =
    (make : DisplayMaker) (old : EdfState) (name : List ℕ) (r : TurnReply) (new : EdfState) (session : SessionState)
    (stop : StopPoint) → EdfApplies make old (edf_event.Plain (event.Turn name)) (answer.Region (reply.Turn r)) new
    → session_at old name ≡ Some session → stop_of r ≡ Some stop
    → takes_in session.mode session.stops stop ≡ false → session.mode ≡ mode.Suppressed

-- ---- what is passed
-- an event of the region that isn't EDF's own is passed as it is, and answered by the region's reply
abbrev pub OtherEventsArePassed : Type 0
OtherEventsArePassed = (old : EdfState) (e : Event) → is_own old (edf_event.Plain e) ≡ false
    → door_of old (edf_event.Plain e) ≡ Passes e None

-- ---- Off everywhere
-- an operator alters through EDF alone
abbrev pub is_alteration : Event → Bool
is_alteration (event.Alter name change) = true
is_alteration e = false

-- with EDF Off everywhere a run of events without alterations is the region's
abbrev pub OffIsTheRegion : Type 0
OffIsTheRegion = (make : DisplayMaker) (old : EdfState) (events : List Event) (answers : List Answer)
    (states : List EdfState) → old.sessions ≡ []
    → AllByRecursion (λ e. is_alteration e ≡ false) events
    → Trace make old (map (λ e. edf_event.Plain e) events) answers states
    → (replies : List Reply) × Run old.region events replies (last_state old states).region
    × (answers ≡ map (λ r. answer.Region r) replies)
    × ((last_state old states).sessions ≡ [])

-- a region with EDF Off everywhere
abbrev pub off_at : RegionState → EdfState
off_at region = record { region = region; sessions = [] }

-- these events are answered so with EDF Off everywhere, whatever displays are, and lead to that region
pub record AreAnsweredOff (make : DisplayMaker) (old : RegionState) (events : List Event) (replies : List Reply)
    (new : RegionState) : Type 0 where
  pub states : List EdfState
  pub trace : Trace make (off_at old) (map (λ e. edf_event.Plain e) events) (map (λ r. answer.Region r) replies) states
  pub ends : last_state (off_at old) states ≡ off_at new

-- each run of the region without alterations is a run with EDF Off everywhere
abbrev pub TheRegionIsOff : Type 0
TheRegionIsOff = (make : DisplayMaker) (old : RegionState) (events : List Event) (replies : List Reply)
    (new : RegionState)
    → AllByRecursion (λ e. is_alteration e ≡ false) events → Run old events replies new
    → AreAnsweredOff make old events replies new

-- ---- a session set is that session, and every other terminal's is as before
-- a session that is put under a terminal's name is found there, and one that is taken out is gone
abbrev pub SessionsAreSet : Type 0
SessionsAreSet = (sessions : Sessions) (name : List ℕ) (to : Option SessionState)
    → session_in (with_session sessions name to) name ≡ to

-- those of other terminals stay
abbrev pub OtherSessionsStay : Type 0
OtherSessionsStay = (sessions : Sessions) (name other : List ℕ) (to : Option SessionState) → is_name name other ≡ false
    → session_in (with_session sessions name to) other ≡ session_in sessions other
