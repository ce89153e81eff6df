-- RUN: turns of a terminal, one after another (own).
use Rattle.std.specs.Prelude.{◌≡◌, ℕ, zero, suc, ◌-◌, Bool, true, false, ◌&&◌, not, MatchBool, if◌then◌else◌, Option, Some, None, List, [], ◌∷◌, ◌++◌, codes}
use Rattle.std.specs.Option.{option_map}
use Rattle.cx_base.specs.Digits.{digits}
use Rattle.cx_base.specs.Texts.{shown_name, shown_text}
use Rattle.cx_region_state.specs.declared.replies.TurnReply.{TurnReply}
use Rattle.cx_region_state.specs.declared.replies.TurnReply.TheVariants as turn
use Rattle.cx_region.specs.State.{RegionState}
use Rattle.cx_region.specs.Turn.{TakesTurn as RegionTakesTurn}
use Rattle.cx_region.specs.declared.replies.Event.TheVariants as event
use Rattle.cx_region.specs.declared.replies.Reply.TheVariants as reply
use Rattle.cx_edf.specs.declared.answers.Answer.{Answer}
use Rattle.cx_edf.specs.declared.answers.Answer.TheVariants as answer
use Rattle.cx_edf.specs.declared.answers.EdfEvent.{EdfEvent}
use Rattle.cx_edf.specs.declared.answers.EdfEvent.TheVariants as edf_event
use Rattle.cx_edf.specs.State.{EdfState, holds, stopped_at}
use Rattle.cx_edf.specs.Steps.{DisplayMaker}
use Rattle.cx_look_lines.specs.Words.{look_line, marked}
use Rattle.cx_look_symbols.specs.Sources.{Sources}
use Rattle.cx_look_ahead.specs.Arrivals.{ComesTo, has_statement}
use Rattle.cx_look_ahead.specs.declared.arrivals.SourceLine.{SourceLine}
use Rattle.cx_look_abend.specs.Abends.{abend_code_in}
use Rattle.cx_look_abend.specs.Noting.{AppliesWithAbends}
use Rattle.cx_look_cover.specs.Tallies.{programs_end}
use Rattle.cx_look_script.specs.Covered.{Covers, machine_run}
use Rattle.cx_look_script.specs.State.{LookState}
use Rattle.cx_look_script.specs.declared.action.LookAction.{LookAction}
use Rattle.cx_look_script.specs.declared.action.LookAction.TheVariants as action
use Rattle.cx_look_script.specs.declared.action.Stop.{Stop}
use Rattle.cx_look_script.specs.declared.action.Stop.TheVariants as stop

-- the task goes on with one more turn: it is due at a command, or one was performed, or taken by a label or an exit
abbrev pub is_midway : Answer → Bool
is_midway (answer.Region (reply.Turn turn.AtCommand)) = true
is_midway (answer.Region (reply.Turn (turn.Performed c))) = true
is_midway (answer.Region (reply.Turn turn.Entered)) = true
is_midway (answer.Region (reply.Turn turn.Returned)) = true
is_midway (answer.Region (reply.Turn (turn.TookLabel c))) = true
is_midway (answer.Region (reply.Turn (turn.TookExit code))) = true
is_midway _ = false

-- one more turn follows a turn that was answered so, unless EDF stopped the task there
abbrev pub turn_goes_on : EdfState → EdfEvent → Answer → Bool
turn_goes_on state (edf_event.Plain (event.Turn name)) given = is_midway given && not (stopped_at state name)
turn_goes_on state _ given = false

abbrev pub turn_of : List ℕ → EdfEvent
turn_of name = edf_event.Plain (event.Turn name)

-- the line of a RUN that its number of turns ended
abbrev pub still_running : List ℕ → List ℕ
still_running name = marked (look_line (codes "RUN" ∷ shown_name name ∷ codes "STILL" ∷ codes "RUNNING" ∷ []))

-- an event at a region that is looked at, where displays are made so: its answer, the region after it, the last abends
-- that are kept, and what is counted of the instructions that it runs
pub record AppliesAtLooks (make : DisplayMaker) (old : LookState) (e : EdfEvent) (given : Answer) (new : LookState)
    : Type 0 where
  pub noted : AppliesWithAbends make old.edf old.abends e given new.edf new.abends
  pub sources : new.sources ≡ old.sources
  pub watched : new.watched ≡ old.watched
  pub covered :
      Covers (machine_run old.edf e) (programs_end old.edf.region.shared.programs) old.covered new.covered
  pub goes_on : new.goes_on ≡ turn_goes_on new.edf e given

-- RUN is over: its last turn isn't to be followed by one more
abbrev pub run_over : LookState → LookState
run_over state = record state { goes_on = false }

-- ---- what ends a RUN in front of a turn
-- the code of the abend as which the region's next turn of a terminal would be answered; None where it would be
-- answered otherwise
pub record IsNextAbend (region : RegionState) (name : List ℕ) (code : Option (List ℕ)) : Type 0 where
  pub reply : TurnReply
  pub after : RegionState
  pub turns : RegionTakesTurn region name reply after
  pub is : code ≡ abend_code_in reply

-- and under EDF, which may hold the turn
unfoldable pub IsAbendAhead : EdfState → List ℕ → Option (List ℕ) → Type 0
IsAbendAhead state name code = MatchBool (holds state name) (code ≡ None) (IsNextAbend state.region name code)

-- the line of a RUN that an abend of this code is ahead of
abbrev pub stopped_before : List ℕ → List ℕ → List ℕ
stopped_before name code =
    let words = codes "STOPPED" ∷ codes "BEFORE" ∷ codes "ABEND" ∷ shown_text code ∷ [] in
    marked (look_line (codes "RUN" ∷ shown_name name ∷ words))

pub record StopsBeforeAbend (state : EdfState) (name : List ℕ) (line : Option (List ℕ)) : Type 0 where
  pub code : Option (List ℕ)
  pub ahead : IsAbendAhead state name code
  pub is : line ≡ option_map (stopped_before name) code

-- whether the region's next turn of a terminal would do something of a line of a source; under EDF, which may hold it
unfoldable pub IsLineAhead : Sources → EdfState → List ℕ → SourceLine → Bool → Type 0
IsLineAhead sources state name to comes =
    MatchBool (holds state name) (comes ≡ false) (ComesTo sources.places state.region name to comes)

-- the line of a RUN that this line of a source is ahead of, and of one that is to go to a line without a statement
abbrev pub place_words : SourceLine → List (List ℕ)
place_words to = shown_name to.program ∷ codes "LINE" ∷ digits 10 5 to.line ∷ []

abbrev pub stopped_before_line : List ℕ → SourceLine → List ℕ
stopped_before_line name to =
    marked (look_line (codes "RUN" ∷ shown_name name ∷ codes "STOPPED" ∷ codes "BEFORE" ∷ place_words to))

abbrev pub no_line : List ℕ → SourceLine → List ℕ
no_line name to =
    marked (look_line (codes "RUN" ∷ shown_name name ∷ codes "TO" ∷ place_words to ++ codes "NONE" ∷ []))

pub record StopsBeforeLine (sources : Sources) (state : EdfState) (name : List ℕ) (to : SourceLine)
    (line : Option (List ℕ)) : Type 0 where
  pub comes : Bool
  pub ahead : IsLineAhead sources state name to comes
  pub is : line ≡ (if comes then Some (stopped_before_line name to) else None)

-- the line with which a RUN ends in front of the terminal's next turn; None where it does the turn
unfoldable pub StopsWith : Stop → Sources → EdfState → List ℕ → Option (List ℕ) → Type 0
StopsWith stop.Never sources state name line = line ≡ None
StopsWith stop.BeforeAbend sources state name line = StopsBeforeAbend state name line
StopsWith (stop.BeforeLine to) sources state name line =
    MatchBool (has_statement sources.places to) (StopsBeforeLine sources state name to line)
    (line ≡ Some (no_line name to))

-- ---- its actions
-- What RUN asks after its first turn, where at most n turns are left: each turn is an action of its own, and so is the
-- line after the last.
unfoldable pub turns_left : List ℕ → Stop → ℕ → List LookAction
turns_left name s zero = action.RunOn name zero s ∷ []
turns_left name s (suc n) = action.RunOn name (suc n) s ∷ turns_left name s n

-- the actions that a line asks, one after another, by the first of them
abbrev pub look_actions_of : LookAction → List LookAction
look_actions_of (action.Run name n s) = action.Run name n s ∷ turns_left name s (n - 1)
look_actions_of (action.RunOn name n s) = turns_left name s n
look_actions_of a = a ∷ []
