-- Which actions may be asked of a region (own).
use Rattle.cx_edf.specs.Runs.{IsAllowedEdf}
use Rattle.cx_script_actions.specs.declared.actions.Action.{Action}
use Rattle.cx_script_actions.specs.declared.actions.Action.TheVariants as action
use Rattle.cx_script_actions.specs.declared.actions.Line.{Line}
use Rattle.cx_script_actions.specs.declared.actions.Line.TheVariants as line

-- an event as the region takes it
abbrev pub IsAllowedAction : Action → Type 0
IsAllowedAction (action.Event event) = IsAllowedEdf event
IsAllowedAction _ = Unit {0}

-- a line whose action may be asked
abbrev pub IsAllowedLine : {A H : Type 0} → (A → Type 0) → Line A H → Type 0
IsAllowedLine Allowed (line.Action a) = Allowed a
IsAllowedLine Allowed _ = Unit {0}
