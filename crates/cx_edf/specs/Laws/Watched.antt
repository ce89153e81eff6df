-- Every run of the region can be watched under EDF.
use Rattle.std.specs.Prelude.{◌≡◌, ℕ, Bool, false, List, [], ◌∷◌, ◌++◌, map, if◌then◌else◌}
use Rattle.std.specs.List.{AllByRecursion}
use Rattle.cx_ebcdic.specs.declared.aids.Aid.TheVariants as aid
use Rattle.cx_region.specs.State.{RegionState}
use Rattle.cx_region.specs.Events.{Run}
use Rattle.cx_region.specs.declared.replies.Event.{Event}
use Rattle.cx_region.specs.declared.replies.Event.TheVariants as event
use Rattle.cx_region.specs.declared.replies.Reply.{Reply}
use Rattle.cx_edf.specs.declared.answers.EdfEvent.{EdfEvent}
use Rattle.cx_edf.specs.declared.answers.EdfEvent.TheVariants as edf_event
use Rattle.cx_edf.specs.declared.answers.Answer.{Answer}
use Rattle.cx_edf.specs.State.{EdfState}
use Rattle.cx_edf.specs.Steps.{DisplayMaker}
use Rattle.cx_edf.specs.Erasure.{erasure, region_replies}
use Rattle.cx_edf.specs.Runs.{Trace, last_state}
use Rattle.cx_edf.specs.Laws.Edf.{is_alteration}

-- an event of the region, with the terminals at which EDF ON is given before it
abbrev pub WatchedEvent : Type 0
WatchedEvent = List (List ℕ) × Event

-- ENTER at the terminal of a key or a turn
abbrev pub enter_before : Event → List EdfEvent
enter_before (event.Key name key bytes) = edf_event.Plain (event.Key name aid.Enter []) ∷ []
enter_before (event.Turn name) = edf_event.Plain (event.Key name aid.Enter []) ∷ []
enter_before e = []

-- These events are those, each after its EDF ONs, and after an ENTER at its terminal where that was entered.
unfoldable pub AreWatched : List WatchedEvent → List EdfEvent → Type 0
AreWatched [] watched = watched ≡ []
AreWatched (one ∷ plan) watched =
    (entered : Bool) × (rest : List EdfEvent)
    × (watched
    ≡ map (λ name. edf_event.On name) one.0
    ++ ((if entered then enter_before one.1 else []) ++ edf_event.Plain one.1 ∷ rest))
    × AreWatched plan rest

-- There is a list under EDF of these events, with EDF begun before any of them and ENTER where a task is stopped, of
-- which exactly they are left, and with these replies, and which leads to this region, whatever displays are.
pub record CanBeWatched (make : DisplayMaker) (old : EdfState) (plan : List WatchedEvent) (replies : List Reply)
    (new : RegionState) : Type 0 where
  pub watched : List EdfEvent
  pub are : AreWatched plan watched
  pub answers : List Answer
  pub states : List EdfState
  pub trace : Trace make old watched answers states
  pub left : erasure old watched answers states ≡ map (λ one. one.1) plan
  pub replied : region_replies old watched answers states ≡ replies
  pub ends : (last_state old states).region ≡ new

-- each run of the region without alterations can be watched, in whatever modes the terminals are
abbrev pub RunsCanBeWatched : Type 0
RunsCanBeWatched = (make : DisplayMaker) (old : EdfState) (plan : List WatchedEvent) (replies : List Reply)
    (new : RegionState)
    → AllByRecursion (λ one. is_alteration one.1 ≡ false) plan → Run old.region (map (λ one. one.1) plan) replies new
    → CanBeWatched make old plan replies new
