-- A script of `cicsedf` is one of `cicslook`, and does the same.
use Rattle.std.specs.Prelude.{◌≡◌, ℕ, List, [], map, Option, Some, None}
use Rattle.cx_edf.specs.Steps.{DisplayMaker}
use Rattle.cx_script_actions.specs.Effects.{Performs}
use Rattle.cx_script_actions.specs.Language.{edf_language}
use Rattle.cx_script_actions.specs.declared.actions.Action.{Action}
use Rattle.cx_script_blocks.specs.declared.faults.RunFault.TheVariants.{BadLine}
use Rattle.cx_script_io.specs.declared.input.Ending.{Ending}
use Rattle.cx_script.specs.Script.{Script, script_in}
use Rattle.cx_script.specs.Transcript.{PerformsAll}
use Rattle.cx_look_script.specs.Looking.{LookPerforms}
use Rattle.cx_look_script.specs.Reading.{look_language}
use Rattle.cx_look_script.specs.State.{LookState}
use Rattle.cx_look_script.specs.declared.action.LookAction.{LookAction}
use Rattle.cx_look_script.specs.declared.action.LookAction.TheVariants as action

-- the action of `cicsedf` that one of `cicslook` is, where it is one
abbrev pub plain_action : LookAction → Option Action
plain_action (action.Script a) = Some a
plain_action (action.Source name lines a) = Some a
plain_action _ = None

-- actions of `cicslook` that are these of `cicsedf`, in their order
abbrev pub ArePlainActions : List LookAction → List Action → Type 0
ArePlainActions actions plain = map plain_action actions ≡ map (λ a. Some a) plain

-- the same script
pub record IsSame (script : Script Action) (here : Script LookAction) : Type 0 where
  pub actions : ArePlainActions here.actions script.actions
  pub fault : here.fault ≡ script.fault

abbrev pub HasNoBadLine : Script Action → Type 0
HasNoBadLine script = (number : ℕ) → script.fault ≡ Some (BadLine number) → ⊥

-- bytes that are a script of `cicsedf` without a bad line are the same script here
abbrev pub ScriptsStay : Type 0
ScriptsStay = (ending : Ending) (bytes : List ℕ) → HasNoBadLine (script_in edf_language ending bytes)
    → IsSame (script_in edf_language ending bytes) (script_in look_language ending bytes)

-- and where nothing is watched its actions write the same, from the same state to the same state
abbrev pub ActionsStay : Type 0
ActionsStay = (make : DisplayMaker) (old : LookState) (actions : List LookAction) (plain : List Action) (text : List ℕ)
    (new : LookState)
    → ArePlainActions actions plain → old.watched ≡ [] → PerformsAll (LookPerforms make) old actions text new
    → PerformsAll (Performs make) old.edf plain text new.edf
