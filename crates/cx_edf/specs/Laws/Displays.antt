-- Which displays are kept of a run under EDF.
use Rattle.std.specs.Prelude.{◌≡◌, ℕ, List, [], ◌∷◌, ◌++◌, Option, Some, None, is_some, map, if◌then◌else◌}
use Rattle.std.specs.List.{filter_map}
use Rattle.std.specs.Option.{option_and_then}
use Rattle.circular_buffer.specs.Buffer.{keep_last}
use Rattle.cx_ebcdic.specs.Names.{is_name}
use Rattle.cx_region.specs.declared.changes.AlterReply.TheVariants as alter
use Rattle.cx_region.specs.declared.changes.Change.TheVariants as change
use Rattle.cx_region.specs.declared.replies.Event.{Event}
use Rattle.cx_region.specs.declared.replies.Event.TheVariants as event
use Rattle.cx_region.specs.declared.replies.Reply.{Reply}
use Rattle.cx_region.specs.declared.replies.Reply.TheVariants as reply
use Rattle.cx_edf.specs.declared.displays.Display.{Display}
use Rattle.cx_edf.specs.declared.stops.StopPoint.{StopPoint}
use Rattle.cx_edf.specs.declared.answers.EdfEvent.{EdfEvent}
use Rattle.cx_edf.specs.declared.answers.Answer.{Answer}
use Rattle.cx_edf.specs.Sessions.{SessionState, operators_end, stop_of_turn}
use Rattle.cx_edf.specs.State.{EdfState, session_at}
use Rattle.cx_edf.specs.Steps.{DisplayMaker}
use Rattle.cx_edf.specs.Erasure.{left_of}
use Rattle.cx_edf.specs.Runs.{Trace, last_state}

-- the stop at which a terminal's session takes a display of what the region did and replied: that of a turn where its
-- mode takes it, and the end by an alteration whatever its mode is
abbrev pub stop_taken : EdfState → List ℕ → Event → Reply → Option StopPoint
stop_taken old q (event.Turn name) (reply.Turn r) =
    if is_name name q then option_and_then (λ session. stop_of_turn session r) (session_at old q) else None
stop_taken old q (event.Alter name change.Abend) (reply.Alter alter.Altered) =
    if is_name name q then Some operators_end else None
stop_taken old q _ _ = None

-- All displays of a terminal's session so far, after one more event: it takes one of the region right after the event.
-- There are none where the terminal has no session.
unfoldable pub displays_after : DisplayMaker → EdfState → EdfEvent → Answer → EdfState → List ℕ → List Display
    → List Display
displays_after make old e given new q all = if is_some (session_at new q)
    then all ++ map (make new.region q) (filter_map (λ p. stop_taken old q p.0 p.1) (left_of old e given)) else []

-- the same after each of some events
unfoldable pub history : DisplayMaker → EdfState → List EdfEvent → List Answer → List EdfState → List ℕ → List Display
    → List Display
history make old (e ∷ events) (given ∷ answers) (new ∷ states) q all =
    history make new events answers states q (displays_after make old e given new q all)
history make old _ _ _ q all = all

-- of all displays of a session the last ten are kept; without a session there are none
abbrev pub IsKept : Option SessionState → List Display → Type 0
IsKept None all = all ≡ []
IsKept (Some session) all = session.displays ≡ keep_last 10 all

-- the kept displays of each terminal are the last ten of its session
abbrev pub LastDisplaysAreKept : Type 0
LastDisplaysAreKept = (make : DisplayMaker) (old : EdfState) (events : List EdfEvent) (answers : List Answer)
    (states : List EdfState) (q : List ℕ) (all : List Display)
    → Trace make old events answers states → IsKept (session_at old q) all
    → IsKept (session_at (last_state old states) q) (history make old events answers states q all)
