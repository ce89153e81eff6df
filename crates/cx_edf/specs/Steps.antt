-- One event under EDF (own).
use Rattle.std.specs.Prelude.{◌≡◌, ℕ, List, Option, Some, None, is_some, ◌&&◌, not, unwrap_or, if◌then◌else◌, MatchBool}
use Rattle.std.specs.Option.{option_map_or}
use Rattle.cx_edf.specs.declared.displays.Display.{Display}
use Rattle.cx_edf.specs.declared.stops.StopPoint.{StopPoint}
use Rattle.cx_region_task.specs.declared.cause.AbendRecord.{AbendRecord}
use Rattle.cx_region.specs.State.{RegionState}
use Rattle.cx_region.specs.Tables.{terminal_of}
use Rattle.cx_region.specs.Turn.{TurnHasAbendRecord}
use Rattle.cx_region.specs.Events.{Applies}
use Rattle.cx_region.specs.declared.changes.AlterReply.TheVariants as alter
use Rattle.cx_region.specs.declared.changes.Change.TheVariants as change
use Rattle.cx_region.specs.declared.replies.Event.{Event}
use Rattle.cx_region.specs.declared.replies.Event.TheVariants as event
use Rattle.cx_region.specs.declared.replies.Reply.{Reply}
use Rattle.cx_region.specs.declared.replies.Reply.TheVariants as reply
use Rattle.cx_edf.specs.declared.answers.EdfEvent.{EdfEvent}
use Rattle.cx_edf.specs.declared.answers.EdfEvent.TheVariants as edf_event
use Rattle.cx_edf.specs.declared.answers.EdfReply.TheVariants as edf
use Rattle.cx_edf.specs.declared.answers.Answer.{Answer}
use Rattle.cx_edf.specs.declared.answers.Answer.TheVariants as answer
use Rattle.cx_edf.specs.Sessions.{SessionState, Sessions, session_after_change, after_key, after_reply, fresh_session, session_in, with_session}
use Rattle.cx_edf.specs.State.{EdfState, ends_by_key, holds, session_at, stopped_at}

-- What EDF does with an event. It keeps it: it answers so, and the sessions become these. Or it passes an event to the
-- region, and answers so, or what the region replies where it has no answer of its own.
pub data Door : Type 0 where
  Keeps : Answer → Sessions → Door
  Passes : Event → Option Answer → Door

-- the sessions with a terminal's changed so, or ended, where it has one
abbrev pub with_session_changed : Sessions → List ℕ → (SessionState → Option SessionState) → Sessions
with_session_changed sessions name change =
    option_map_or (λ session. with_session sessions name (change session)) (session_in sessions name) sessions

-- What EDF does with each event. It keeps EDF ON and EDF OFF, a key met in Stopped, a turn met in Stopped with a live
-- task, and an alteration met in another mode, except one of an unknown terminal, which is the region's to refuse. PF12
-- that ends a task is passed as the alteration that does so.
unfoldable pub door_of : EdfState → EdfEvent → Door
door_of old (edf_event.On name) =
    if not (is_some (terminal_of old.region name)) then Keeps (answer.Edf edf.NoSuchTerminal) old.sessions
    else if is_some (session_at old name) then Keeps (answer.Edf edf.AlreadyOn) old.sessions
    else Keeps (answer.Edf edf.Started) (with_session old.sessions name (Some fresh_session))
door_of old (edf_event.Off name) =
    if not (is_some (terminal_of old.region name)) then Keeps (answer.Edf edf.NoSuchTerminal) old.sessions
    else if is_some (session_at old name) then Keeps (answer.Edf edf.Closed) (with_session old.sessions name None)
    else Keeps (answer.Edf edf.NotOn) old.sessions
door_of old (edf_event.Plain (event.Key name aid bytes)) =
    if ends_by_key old name aid then Passes (event.Alter name change.Abend) (Some answer.ToEdf)
    else if stopped_at old name
    then Keeps answer.ToEdf (with_session_changed old.sessions name (λ session. after_key session aid bytes))
    else Passes (event.Key name aid bytes) None
door_of old (edf_event.Plain (event.Turn name)) =
    if holds old name then Keeps answer.Held old.sessions else Passes (event.Turn name) None
door_of old (edf_event.Plain (event.Alter name change)) =
    if is_some (terminal_of old.region name) && not (stopped_at old name) then Keeps answer.NotStopped old.sessions
    else Passes (event.Alter name change) None
door_of old (edf_event.Plain e) = Passes e None

-- how a display is made: of a region, for a terminal, at a stop
abbrev pub DisplayMaker : Type 0
DisplayMaker = RegionState → List ℕ → StopPoint → Display

-- the sessions after what the region did and replied, where these are the displays that the stops of terminals take
abbrev pub sessions_after : Sessions → Event → Reply → (List ℕ → StopPoint → Display) → Sessions
sessions_after sessions (event.Turn name) (reply.Turn r) display_at =
    with_session_changed sessions name (λ session. Some (after_reply session r (display_at name)))
sessions_after sessions (event.Alter name change) (reply.Alter alter.Altered) display_at =
    with_session_changed sessions name (λ session. Some (session_after_change session change (display_at name)))
sessions_after sessions _ _ display_at = sessions

-- the region's event, an answer of EDF's own or the region's reply, and the sessions after it, with displays of the
-- region right after it
pub record PassesOn (make : DisplayMaker) (old : EdfState) (event : Event) (own : Option Answer) (given : Answer)
    (new : EdfState) : Type 0 where
  pub reply : Reply
  pub applies : Applies old.region event reply new.region
  pub table : new.sessions ≡ sessions_after old.sessions event reply (make new.region)
  pub answers : given ≡ unwrap_or own (answer.Region reply)

abbrev pub DoorAnswers : DisplayMaker → EdfState → Door → Answer → EdfState → Type 0
DoorAnswers make old (Keeps own sessions) given new = (given ≡ own) × (new ≡ record old { sessions = sessions })
DoorAnswers make old (Passes event own) given new = PassesOn make old event own given new

-- one event, where displays are made so: its answer, and the state after it
unfoldable pub EdfApplies : DisplayMaker → EdfState → EdfEvent → Answer → EdfState → Type 0
EdfApplies make old e given new = DoorAnswers make old (door_of old e) given new

-- The record of an abend to which an event leads: that of the region's turn, where it isn't held; no other event leads
-- to one that has a cause: PF12 and ALTER ABEND are the operator's.
unfoldable pub EdfHasAbendRecord : EdfState → EdfEvent → Option AbendRecord → Type 0
EdfHasAbendRecord old (edf_event.Plain (event.Turn name)) abend_record =
    MatchBool (holds old name) (abend_record ≡ None) (TurnHasAbendRecord old.region name abend_record)
EdfHasAbendRecord old _ abend_record = abend_record ≡ None
