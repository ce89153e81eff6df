-- A look changes nothing (own).
use Rattle.std.specs.Prelude.{◌≡◌, ℕ, zero, suc, MatchBool, MatchOption, Option, List, [], ◌∷◌, ◌++◌}
use Rattle.std.specs.List.{flat_map}
use Rattle.cx_script_actions.specs.Effects.{Performs}
use Rattle.cx_script_actions.specs.declared.actions.Action.{Action}
use Rattle.cx_script_actions.specs.declared.actions.Action.TheVariants as edf_action
use Rattle.cx_script.specs.Transcript.{PerformsAll}
use Rattle.cx_look_lines.specs.Marked.{IsOfLooks}
use Rattle.cx_look.specs.declared.look.Look.{Look}
use Rattle.cx_look.specs.declared.choices.ChoicesBlock.{ChoicesBlock}
use Rattle.cx_look.specs.declared.orders.OrdersBlock.{OrdersBlock}
use Rattle.cx_look_script.specs.Looking.{IsLookText, LookPerforms, NotedPerforms, ShowsChoices, ShowsOrders}
use Rattle.cx_look_lines.specs.Words.{marked}
use Rattle.cx_look_script.specs.Covered.{cover_lines, covered_from}
use Rattle.cx_look_script.specs.Help.{bad_look_text}
use Rattle.cx_look_script.specs.Runs.{StopsWith, run_over, still_running, turn_of}
use Rattle.cx_look_script.specs.Sources.{with_source}
use Rattle.cx_look_script.specs.State.{LookState}
use Rattle.cx_look_script.specs.Watched.{IsWatchedText, cause_of, watch_lines, watched_after}
use Rattle.cx_look_script.specs.declared.action.LookAction.{LookAction}
use Rattle.cx_look_script.specs.declared.action.LookAction.TheVariants as action
use Rattle.cx_look_script.specs.declared.action.Stop.{Stop}
use Rattle.cx_edf.specs.Steps.{DisplayMaker}

-- What became of an action of a script with looks: actions of `cicsedf`, what these wrote, what a look wrote after
-- them, and what was written of the bytes that are watched.
pub record ActionPart : Type 0 where
  pub plain : List Action
  pub written : List ℕ
  pub looked : List ℕ
  pub watched : List ℕ

-- a turn of a terminal
abbrev pub turn_action : List ℕ → Action
turn_action name = edf_action.Event (turn_of name)

-- a turn of RUN, or the line with which it ends in front of the turn
pub record IsTurnOfRun (there : LookState) (name : List ℕ) (s : Stop) (part : ActionPart) : Type 0 where
  pub line : Option (List ℕ)
  pub stops : StopsWith s there.sources there.edf name line
  pub is : MatchOption line ((part.plain ≡ turn_action name ∷ []) × (part.looked ≡ []))
      (λ l. (part.plain ≡ []) × (part.looked ≡ l))

-- one more, or where none is left its last line
abbrev pub IsMoreOfRun : LookState → List ℕ → ℕ → Stop → ActionPart → Type 0
IsMoreOfRun there name zero s part = (part.plain ≡ []) × (part.looked ≡ still_running name)
IsMoreOfRun there name (suc n) s part = IsTurnOfRun there name s part

-- An action of `cicsedf` is itself, and so is each turn of RUN: the first, and a further one exactly where the last is
-- to be followed by one more. A look is none: its text is that of the state there.
abbrev pub IsPart : LookState → LookAction → ActionPart → Type 0
IsPart there (action.Script a) part = (part.plain ≡ a ∷ []) × (part.looked ≡ [])
IsPart there (action.Source name lines a) part = (part.plain ≡ a ∷ []) × (part.looked ≡ [])
IsPart there (action.Run name n s) part = IsTurnOfRun there name s part
IsPart there (action.RunOn name n s) part =
    MatchBool there.goes_on (IsMoreOfRun there name n s part) ((part.plain ≡ []) × (part.looked ≡ []))
IsPart there (action.Watch w) part = (part.plain ≡ []) × (part.looked ≡ marked (watch_lines there w))
IsPart there (action.Cover on) part = (part.plain ≡ []) × (part.looked ≡ marked (cover_lines on))
IsPart there (action.Look look) part = (part.plain ≡ []) × IsLookText look there part.looked
IsPart there (action.Orders block) part = (part.plain ≡ []) × ShowsOrders block there part.looked
IsPart there (action.Choices block) part = (part.plain ≡ []) × ShowsChoices block there part.looked
IsPart there (action.BadLook number s) part = (part.plain ≡ []) × (part.looked ≡ marked (bad_look_text number s))

-- after a part of RUN that has no turn RUN is over
abbrev pub after_turns : List Action → LookState → LookState
after_turns [] new = run_over new
after_turns (turn ∷ turns) new = new

-- after the actions of a source's part its lines are kept, after WATCH what it watches, and after COVER what is counted
abbrev pub state_kept_after : LookState → LookAction → List Action → LookState → LookState
state_kept_after old (action.Source name lines a) plain new = with_source old name lines new
state_kept_after old (action.Run name n s) plain new = after_turns plain new
state_kept_after old (action.RunOn name n s) plain new = after_turns plain new
state_kept_after old (action.Watch w) plain new = record new { watched = watched_after old w }
state_kept_after old (action.Cover on) plain new = record new { covered = covered_from on }
state_kept_after old _ plain new = new

-- a part for each action, from the state that those before leave, with the last abends that their events lead to
unfoldable pub ArePartsOf : DisplayMaker → LookState → List LookAction → List ActionPart → LookState → Type 0
ArePartsOf make old [] [] new = new ≡ old
ArePartsOf make old (a ∷ actions) (part ∷ parts) new =
    (done between : LookState) × IsPart old a part
    × PerformsAll (NotedPerforms make) old part.plain part.written done
    × (between ≡ state_kept_after old a part.plain done) × IsWatchedText old (cause_of a) between part.watched
    × ArePartsOf make between actions parts new
ArePartsOf make old _ _ new = ⊥

abbrev pub plain_of : ActionPart → List Action
plain_of part = part.plain

abbrev pub written_of : ActionPart → List ℕ
written_of part = part.written

-- what a part wrote, and the look and WATCH after it
abbrev pub text_of_part : ActionPart → List ℕ
text_of_part part = part.written ++ part.looked ++ part.watched

-- There is a part for each action so that: the actions of all parts are a run of `cicsedf`, from the same state to the
-- same state; and the text is what this writes, with that of each look, and of what is watched, at its place.
pub record ChangesNothing (make : DisplayMaker) (old : LookState) (actions : List LookAction) (text : List ℕ)
    (new : LookState) : Type 0 where
  pub parts : List ActionPart
  pub each : ArePartsOf make old actions parts new
  pub runs : PerformsAll (Performs make) old.edf (flat_map plain_of parts) (flat_map written_of parts) new.edf
  pub whole : text ≡ flat_map text_of_part parts

abbrev pub LooksChangeNothing : Type 0
LooksChangeNothing = (make : DisplayMaker) (old : LookState) (actions : List LookAction) (text : List ℕ)
    (new : LookState) → PerformsAll (LookPerforms make) old actions text new → ChangesNothing make old actions text new

-- what is written for a look is lines of looks
abbrev pub LooksAreMarked : Type 0
LooksAreMarked = (look : Look) (state : LookState) (text : List ℕ) → IsLookText look state text → IsOfLooks text

-- and so is what is written for a block of ORDERS
abbrev pub OrdersAreMarked : Type 0
OrdersAreMarked =
    (block : OrdersBlock) (state : LookState) (text : List ℕ) → ShowsOrders block state text → IsOfLooks text

-- or of CHOICES
abbrev pub ChoicesAreMarked : Type 0
ChoicesAreMarked =
    (block : ChoicesBlock) (state : LookState) (text : List ℕ) → ShowsChoices block state text → IsOfLooks text

-- the text of a look is a function of the state
abbrev pub LooksAreReportedOnce : Type 0
LooksAreReportedOnce = (look : Look) (state : LookState) (one other : List ℕ)
    → IsLookText look state one → IsLookText look state other → one ≡ other
