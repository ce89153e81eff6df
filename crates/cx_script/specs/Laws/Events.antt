-- A run of a script is a run of its events under EDF.
use Rattle.std.specs.Prelude.{◌≡◌, ℕ, List, [], ◌∷◌, ◌++◌, Option, Some, None}
use Rattle.std.specs.List.{filter_map, flat_map}
use Rattle.cx_code.specs.declared.image.Image.{Image}
use Rattle.cx_load.specs.Fault.{image_fault}
use Rattle.cx_load.specs.declared.fault.ImageFault.{ImageFault}
use Rattle.cx_region.specs.declared.replies.Event.TheVariants as event
use Rattle.cx_edf.specs.declared.answers.Answer.{Answer}
use Rattle.cx_edf.specs.declared.answers.EdfEvent.{EdfEvent}
use Rattle.cx_edf.specs.declared.answers.EdfEvent.TheVariants as edf_event
use Rattle.cx_edf.specs.State.{EdfState}
use Rattle.cx_edf.specs.Steps.{DisplayMaker}
use Rattle.cx_edf.specs.Runs.{EdfRun}
use Rattle.cx_script_actions.specs.Texts.{answer_text}
use Rattle.cx_script.specs.Transcript.{PerformsAll}
use Rattle.cx_script_actions.specs.Effects.{Performs}
use Rattle.cx_script_actions.specs.declared.actions.Action.{Action}
use Rattle.cx_script_actions.specs.declared.actions.Action.TheVariants as action

-- the event that an action gives: an image gives one where it has no fault, what is shown none
abbrev pub program_event : Option ImageFault → List ℕ → Image → Option EdfEvent
program_event None name image = Some (edf_event.Plain (event.Program name image))
program_event (Some fault) name image = None

abbrev pub event_of : Action → Option EdfEvent
event_of (action.Image name image) = program_event (image_fault image) name image
event_of (action.Source name before image) = program_event (image_fault image) name image
event_of (action.Event event) = Some event
event_of (action.Screen name) = None
event_of (action.Display name) = None
event_of (action.Previous name k) = None

abbrev pub events_of : List Action → List EdfEvent
events_of actions = filter_map event_of actions

-- what an action writes in front of that: of a source its listing and disassembly, where they are wanted
abbrev pub written_before : Action → List ℕ
written_before (action.Source name before image) = before
written_before _ = []

-- the text of an action that gives an event is that of the event's answer, after what is written before
abbrev pub IsReportedBy : Option EdfEvent → List ℕ → List Answer → List ℕ → (List Answer → Type 0) → Type 0
IsReportedBy None before answers text Rest = Rest answers
IsReportedBy (Some event) before [] text Rest = ⊥
IsReportedBy (Some event) before (answer ∷ answers) text Rest =
    (text ≡ before ++ answer_text event answer) × Rest answers

-- the answers, in order, are those that the texts of these actions report
unfoldable pub AreReported : List Action → List Answer → List (List ℕ) → Type 0
AreReported [] [] [] = Unit {0}
AreReported (action ∷ actions) answers (text ∷ texts) =
    IsReportedBy (event_of action) (written_before action) answers text (λ left. AreReported actions left texts)
AreReported _ _ _ = ⊥

-- the actions did their events, in order, from the one state to the other, with the answers that were written
pub record IsRun (make : DisplayMaker) (old : EdfState) (actions : List Action) (written : List ℕ) (new : EdfState)
    : Type 0 where
  pub answers : List Answer
  pub run : EdfRun make old (events_of actions) answers new
  pub texts : List (List ℕ)
  pub whole : written ≡ flat_map (λ text. text) texts
  pub reported : AreReported actions answers texts

abbrev pub ScriptsRunTheirEvents : Type 0
ScriptsRunTheirEvents = (make : DisplayMaker) (old : EdfState) (actions : List Action) (text : List ℕ) (new : EdfState)
    → PerformsAll (Performs make) old actions text new → IsRun make old actions text new
