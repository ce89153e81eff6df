-- RUN as a whole: turns of a terminal, one after another (own).
use Rattle.std.specs.Prelude.{◌≡◌, ℕ, zero, suc, Bool, false, if◌then◌else◌, MatchBool, MatchOption, Option, Some, None, List, [], ◌++◌}
use Rattle.std.specs.Option.{option_map}
use Rattle.cx_region_state.specs.declared.replies.TurnReply.{TurnReply}
use Rattle.cx_region.specs.State.{RegionState}
use Rattle.cx_region.specs.Turn.{TakesTurn as RegionTakesTurn}
use Rattle.cx_region.specs.declared.replies.Reply.TheVariants as reply
use Rattle.cx_edf.specs.State.{EdfState, holds}
use Rattle.cx_edf.specs.Steps.{DisplayMaker}
use Rattle.cx_edf.specs.declared.answers.Answer.{Answer}
use Rattle.cx_edf.specs.declared.answers.Answer.TheVariants as answer
use Rattle.cx_script_actions.specs.Texts.{answer_text}
use Rattle.cx_script.specs.Transcript.{PerformsAll}
use Rattle.cx_look_symbols.specs.Sources.{Sources}
use Rattle.cx_look_ahead.specs.Arrivals.{has_statement}
use Rattle.cx_look_ahead.specs.Laws.Arrivals.{DoesSome}
use Rattle.cx_look_ahead.specs.declared.arrivals.SourceLine.{SourceLine}
use Rattle.cx_look_abend.specs.Abends.{abend_code_in}
use Rattle.cx_look_ahead.specs.declared.watching.Cause.TheVariants as cause
use Rattle.cx_look_script.specs.Looking.{LookPerforms}
use Rattle.cx_look_script.specs.Runs.{AppliesAtLooks, StopsWith, turn_goes_on, look_actions_of, no_line, run_over, still_running, stopped_before, stopped_before_line, turn_of}
use Rattle.cx_look_script.specs.State.{LookState}
use Rattle.cx_look_script.specs.Watched.{IsWatchedText}
use Rattle.cx_look_script.specs.declared.action.LookAction.TheVariants as action
use Rattle.cx_look_script.specs.declared.action.Stop.{Stop}
use Rattle.cx_look_script.specs.declared.action.Stop.TheVariants as stop

-- At most n turns of a terminal, one after another: the state before, what is written for them, and the state after.
-- One more follows exactly where the last is to be followed by one more, and RUN doesn't end in front of it.
unfoldable pub TakesTurns : DisplayMaker → LookState → List ℕ → Stop → ℕ → List ℕ → LookState → Type 0
TakesTurns make old name s zero text new = (text ≡ still_running name) × (new ≡ run_over old)
TakesTurns make old name s (suc n) text new =
    (line : Option (List ℕ)) × StopsWith s old.sources old.edf name line
    × MatchOption line
    ((given : Answer) × (between : LookState) × (watched rest : List ℕ)
    × AppliesAtLooks make old (turn_of name) given between × IsWatchedText old (cause.Turn name) between watched
    × MatchBool (turn_goes_on between.edf (turn_of name) given) (TakesTurns make between name s n rest new)
    ((rest ≡ []) × (new ≡ between))
    × (text ≡ answer_text (turn_of name) given ++ watched ++ rest))
    (λ l. (text ≡ l) × (new ≡ run_over old))

-- so the actions of a RUN of n turns are
abbrev pub RunsTakeTurns : Type 0
RunsTakeTurns = (make : DisplayMaker) (old : LookState) (name : List ℕ) (s : Stop) (n : ℕ) (text : List ℕ)
    (new : LookState)
    → PerformsAll (LookPerforms make) old (look_actions_of (action.Run name (suc n) s)) text new
    → TakesTurns make old name s (suc n) text new

-- the code of the abend as which an event is answered
abbrev pub abend_in : Answer → Option (List ℕ)
abend_in (answer.Region (reply.Turn given)) = abend_code_in given
abend_in _ = None

-- RUN BEFORE ABEND ends in front of a turn exactly where the turn is answered as an abend when it is done, and names
-- its code
abbrev pub RunsEndBeforeAbends : Type 0
RunsEndBeforeAbends = (make : DisplayMaker) (old new : LookState) (name : List ℕ) (line : Option (List ℕ))
    (given : Answer)
    → StopsWith stop.BeforeAbend old.sources old.edf name line → AppliesAtLooks make old (turn_of name) given new
    → line ≡ option_map (stopped_before name) (abend_in given)

-- what the region's turn does of a line of a source, which is answered so
pub record RegionDoes (old : LookState) (name : List ℕ) (to : SourceLine) (does : Bool) (given : Answer)
    (new : RegionState) : Type 0 where
  pub turned : TurnReply
  pub answers : given ≡ answer.Region (reply.Turn turned)
  pub turns : RegionTakesTurn old.edf.region name turned new
  pub done : DoesSome old.sources.places old.edf.region name to does turned new

-- what a turn that is done under EDF does of a line of a source: nothing where it is held; else what the region's turn
-- does
abbrev pub IsTurnDone : LookState → List ℕ → SourceLine → Bool → Answer → RegionState → Type 0
IsTurnDone old name to does given new =
    MatchBool (holds old.edf name) ((given ≡ answer.Held) × (does ≡ false)) (RegionDoes old name to does given new)

-- RUN TO ends in front of a turn exactly where the turn, when it is done, does something of the line: its run has an
-- instruction there, or it performs the command that is due there. Where the line has no statement it does no turn.
pub record EndsBeforeLine (old : LookState) (name : List ℕ) (to : SourceLine) (line : Option (List ℕ)) (given : Answer)
    (new : LookState) : Type 0 where
  pub does : Bool
  pub done : IsTurnDone old name to does given new.edf.region
  pub is : line ≡ (if does then Some (stopped_before_line name to) else None)

abbrev pub RunsEndBeforeLines : Type 0
RunsEndBeforeLines = (make : DisplayMaker) (old new : LookState) (name : List ℕ) (to : SourceLine)
    (line : Option (List ℕ)) (given : Answer)
    → StopsWith (stop.BeforeLine to) old.sources old.edf name line → AppliesAtLooks make old (turn_of name) given new
    → MatchBool (has_statement old.sources.places to) (EndsBeforeLine old name to line given new)
    (line ≡ Some (no_line name to))

-- whether RUN ends there, and with which line, is a function of the state
abbrev pub StopsDecide : Type 0
StopsDecide = (s : Stop) (sources : Sources) (state : EdfState) (name : List ℕ) (one other : Option (List ℕ))
    → StopsWith s sources state name one → StopsWith s sources state name other → one ≡ other
