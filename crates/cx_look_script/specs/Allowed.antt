-- Which actions may be asked (own).
use Rattle.std.specs.Prelude.{⊤, ◌≤◌}
use Rattle.std.specs.List.{AllByRecursion}
use Rattle.cx_script_actions.specs.Allowed.{IsAllowedAction}
use Rattle.cx_orders.specs.Moves.{IsFew}
use Rattle.cx_look_script.specs.declared.action.LookAction.{LookAction}
use Rattle.cx_look_script.specs.declared.action.LookAction.TheVariants as action

-- an action of `cicsedf` as it may be asked there
abbrev pub IsAllowedLook : LookAction → Type 0
IsAllowedLook (action.Script a) = IsAllowedAction a
IsAllowedLook (action.Source name lines a) = IsAllowedAction a
IsAllowedLook (action.Orders block) = (1 ≤ block.most) × AllByRecursion IsFew block.keys
IsAllowedLook (action.Choices block) =
    (1 ≤ block.asked.keys) × (1 ≤ block.asked.most) × AllByRecursion IsFew block.choices
IsAllowedLook _ = ⊤
