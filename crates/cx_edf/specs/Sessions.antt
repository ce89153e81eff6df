-- EDF sessions: modes, keys, stops and displays (Application Programmer's Reference Manual, SC33-0077, "Execution
-- (Command-Level) Diagnostic Facility"; suppression, keys and texts are this product's own).
use Rattle.std.specs.Prelude.{ℕ, ◌+◌, ◌-◌, slice_get, Bool, true, false, nat_lt, not, List, [], ◌∷◌, ◌++◌, length, Option, Some, None, unwrap_or, if◌then◌else◌}
use Rattle.std.specs.Option.{option_and_then, option_map, option_map_or}
use Rattle.std.specs.List.{filter}
use Rattle.std.specs.Map.{lookup}
use Rattle.indexmap.specs.IndexMap.{insert_entry}
use Rattle.circular_buffer.specs.Buffer.{keep_last}
use Rattle.cx_ebcdic.specs.declared.aids.Aid.{Aid}
use Rattle.cx_ebcdic.specs.declared.aids.Aid.TheVariants as aid
use Rattle.cx_base.specs.declared.abends.Abend.TheVariants.{Xedf}
use Rattle.cx_base.specs.declared.conditions.Condition.TheVariants as condition
use Rattle.cx_base.specs.Abends.{abend_code}
use Rattle.cx_edf.specs.declared.displays.Display.{Display}
use Rattle.cx_edf.specs.declared.stops.StopPoint.{StopPoint}
use Rattle.cx_edf.specs.declared.stops.StopPoint.TheVariants as kind
use Rattle.cx_edf.specs.declared.stops.Ending.TheVariants as ending
use Rattle.cx_region.specs.declared.changes.Change.{Change}
use Rattle.cx_region.specs.declared.changes.Change.TheVariants as change
use Rattle.cx_ebcdic.specs.Names.{is_name}
use Rattle.cx_region_state.specs.declared.replies.TurnReply.{TurnReply}
use Rattle.cx_region_state.specs.declared.replies.TurnReply.TheVariants as turn
use Rattle.cx_edf.specs.declared.modes.Mode.{Mode}
use Rattle.cx_edf.specs.declared.modes.Mode.TheVariants as mode
use Rattle.cx_edf.specs.declared.modes.PageName.{PageName}
use Rattle.cx_edf.specs.declared.modes.PageName.TheVariants as page
use Rattle.cx_edf.specs.declared.modes.View.{View}
use Rattle.cx_edf.specs.declared.stop_words.Stops.{Stops}
use Rattle.cx_edf.specs.Stops.{no_stops, stops_named, takes}

-- A session of a terminal: its mode, its stop conditions, which display and page are shown, and the kept displays, the
-- newest last.
pub record SessionState : Type 0 where
  pub mode : Mode
  pub stops : Stops
  pub view : View
  pub displays : List Display

-- the sessions, by terminal: a terminal without one is Off
abbrev pub Sessions : Type 0
Sessions = List (List ℕ × SessionState)

abbrev pub session_in : Sessions → List ℕ → Option SessionState
session_in sessions name = lookup (is_name name) sessions

-- the sessions with this one, or none, under the name
abbrev pub with_session : Sessions → List ℕ → Option SessionState → Sessions
with_session sessions name None = filter (λ entry. not (is_name name entry.0)) sessions
with_session sessions name (Some session) = insert_entry is_name sessions name session

-- the view of the newest display's main page
abbrev pub newest : View
newest = record { back = 0; page = page.Main }

-- a session as EDF ON makes it: it stops at ABEND alone
abbrev pub fresh_session : SessionState
fresh_session = record { mode = mode.Free; stops = record no_stops { abend = true }; view = newest; displays = [] }

-- ---- stops
-- where a turn's reply stops the task: nowhere for a terminal without a task, or a command that waits
abbrev pub stop_of : TurnReply → Option StopPoint
stop_of turn.AtCommand = Some kind.Before
stop_of (turn.Performed c) = Some (kind.After c)
stop_of (turn.TookLabel c) = Some (kind.After c)
stop_of turn.Entered = Some (kind.After condition.Normal)
stop_of turn.Returned = Some (kind.After condition.Normal)
stop_of (turn.TookExit code) = Some (kind.Exit code)
stop_of turn.Ended = Some (kind.Over ending.Ended)
stop_of (turn.Abended code) = Some (kind.Over (ending.Abended code))
stop_of _ = None

-- whether a mode takes a stop
abbrev pub takes_in : Mode → Stops → StopPoint → Bool
takes_in mode.Free stops stop = true
takes_in (mode.Stopped other) stops stop = false
takes_in mode.Suppressed stops stop = takes stops stop

-- a session that is stopped, with the display taken there: it is the newest of at most ten, and its main page is shown
abbrev pub stop_session : SessionState → StopPoint → Display → SessionState
stop_session session stop display =
    record session {
      mode = mode.Stopped stop;
      view = newest;
      displays = keep_last 10 (session.displays ++ display ∷ []);
    }

-- where a session stops at a turn's reply: at a stop that its mode takes
abbrev pub stop_of_turn : SessionState → TurnReply → Option StopPoint
stop_of_turn session reply =
    option_and_then (λ stop. if takes_in session.mode session.stops stop then Some stop else None) (stop_of reply)

-- a session after a turn's reply, where this is the display that a stop of each kind takes
unfoldable pub after_reply : SessionState → TurnReply → (StopPoint → Display) → SessionState
after_reply session reply display_at =
    option_map_or (λ stop. stop_session session stop (display_at stop)) (stop_of_turn session reply) session

-- ---- alterations
-- the stop of a task that the operator ended
abbrev pub operators_end : StopPoint
operators_end = kind.Over (ending.Abended (abend_code Xedf))

-- A stopped session whose task was altered, where this is the display that a stop of each kind takes: after Nop the
-- task goes on, and after Abend it is stopped over, whatever its stop conditions are.
unfoldable pub session_after_change : SessionState → Change → (StopPoint → Display) → SessionState
session_after_change session change.Nop display_at = record session { mode = mode.Free }
session_after_change session change.Abend display_at = stop_session session operators_end (display_at operators_end)
session_after_change session other display_at = session

-- ---- keys
abbrev pub is_stopped : Mode → Bool
is_stopped (mode.Stopped stop) = true
is_stopped _ = false

-- the page that a key asks for, or the main page if that very page is shown
abbrev pub turned_to : PageName → PageName → PageName
turned_to page.Storage page.Storage = page.Main
turned_to page.User page.User = page.Main
turned_to asked shown = asked

-- the display before the shown one; at the oldest no change
abbrev pub older : View → ℕ → View
older view kept = if nat_lt (view.back + 1) kept then record { back = view.back + 1; page = page.Main } else view

-- a session after a key in Stopped; None where the key ends it
unfoldable pub after_key : SessionState → Aid → List ℕ → Option SessionState
after_key session aid.Enter bytes = Some (record session { mode = mode.Free })
after_key session aid.Pf3 bytes = None
after_key session aid.Pf4 bytes = Some (record session { mode = mode.Suppressed })
after_key session aid.Pf5 bytes =
    Some (record session { view = record session.view { page = turned_to page.Storage session.view.page } })
after_key session aid.Pf6 bytes =
    Some (record session { view = record session.view { page = turned_to page.User session.view.page } })
after_key session aid.Pf9 bytes = Some (record session { stops = unwrap_or (stops_named bytes) session.stops })
after_key session aid.Pf10 bytes = Some (record session { view = older session.view (length session.displays) })
after_key session other bytes = Some session

-- ---- what is shown
-- the display a given number before the newest; None past the oldest
abbrev pub nth_back : List Display → ℕ → Option Display
nth_back displays k = if nat_lt k (length displays) then slice_get displays (length displays - k - 1) else None

-- in Stopped the display and the page that the view says
abbrev pub shown_of : SessionState → Option (Display × View)
shown_of session =
    if is_stopped session.mode
    then option_map (λ display. (display, session.view)) (nth_back session.displays session.view.back) else None
