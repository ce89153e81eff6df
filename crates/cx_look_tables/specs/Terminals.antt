-- What looks write of terminals and of the clock (own).
use Rattle.std.specs.Prelude.{ℕ, ◌==◌, if◌then◌else◌, Option, Some, None, List, [], ◌∷◌, ◌++◌, codes, length, take}
use Rattle.std.specs.Fmt.{decimal}
use Rattle.std.specs.List.{flat_map}
use Rattle.std.specs.Str.{byte}
use Rattle.cx_ebcdic.specs.Aids.{key_of}
use Rattle.cx_base.specs.Conditions.{entry_of, handled_conditions}
use Rattle.cx_base.specs.declared.conditions.Condition.{Condition}
use Rattle.cx_base.specs.Digits.{digits}
use Rattle.cx_base.specs.Texts.{shown_name}
use Rattle.cx_region_state.specs.State.{Input, NextTransaction}
use Rattle.cx_region.specs.State.{TerminalState}
use Rattle.cx_edf.specs.Sessions.{SessionState, Sessions, session_in}
use Rattle.cx_edf.specs.State.{EdfState}
use Rattle.cx_edf.specs.Stops.{names}
use Rattle.cx_edf.specs.declared.modes.Mode.{Mode}
use Rattle.cx_edf.specs.declared.modes.Mode.TheVariants as mode
use Rattle.cx_edf.specs.declared.stop_words.Stops.{Stops}
use Rattle.cx_look_lines.specs.Words.{look_line, or_none, written_bytes, written_name, Lines}

-- how many bytes there are, and the first 64 of them
unfoldable pub length_and_bytes : List ℕ → List ℕ
length_and_bytes bytes = decimal (length bytes) ++ codes " " ++ written_bytes (take 64 bytes)

-- ---- what the next key attaches: a transaction, and the COMMAREA that is kept for it
unfoldable pub next_word : Option NextTransaction → List ℕ
next_word None = codes "--"
next_word (Some next) =
    written_name next.tran
    ++ (if length next.commarea == 0 then [] else codes " COMMAREA " ++ length_and_bytes next.commarea)

-- ---- the input that is held, with its key
unfoldable pub held_word : Option Input → List ℕ
held_word None = codes "--"
held_word (Some input) = (key_of input.aid).name ++ codes " " ++ length_and_bytes input.bytes

-- ---- EDF: its mode, and its stop conditions
abbrev pub mode_name : Mode → List ℕ
mode_name mode.Free = codes "FREE"
mode_name (mode.Stopped stop) = codes "STOPPED"
mode_name mode.Suppressed = codes "SUPPRESSED"

abbrev pub stop_condition_word : Stops → Condition → List ℕ
stop_condition_word stops condition = if names stops condition then byte " " ∷ (entry_of condition).name else []

unfoldable pub stops_word : Stops → List ℕ
stops_word stops =
    (if stops.abend then codes " ABEND" else []) ++ (if stops.end then codes " END" else [])
    ++ flat_map (stop_condition_word stops) handled_conditions

unfoldable pub edf_word : Option SessionState → List ℕ
edf_word None = codes "OFF"
edf_word (Some session) = mode_name session.mode ++ stops_word session.stops

-- ---- all terminals
unfoldable pub terminal_line : Sessions → List ℕ × TerminalState → Lines
terminal_line sessions (name, terminal) =
    look_line
    (codes "TERMINAL" ∷ shown_name name ∷ codes "NEXT" ∷ next_word terminal.entry.following ∷ codes "HELD"
    ∷ held_word terminal.entry.input
    ∷ codes "EDF" ∷ edf_word (session_in sessions name) ∷ [])

-- after the time and the date that tasks attached later find
unfoldable pub terminals_text : EdfState → Lines
terminals_text state =
    look_line (codes "CLOCK" ∷ digits 10 6 state.region.time ∷ digits 10 5 state.region.date ∷ [])
    ++ or_none (codes "TERMINALS") (flat_map (terminal_line state.sessions) state.region.terminals)
