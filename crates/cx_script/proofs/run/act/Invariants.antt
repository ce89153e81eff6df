use Rattle.std.proofs.Common.{◌≡◌, false, length}
use Rattle.std.specs.Prelude.{IfSome}
use Rattle.cx_script_io.specs.Devices.{device_output}
use Rattle.cx_script.specs.Parts.Progress.{Acting, Calling}
use Rattle.cx_script.specs.Script.{actions_of}
use Rattle.cx_script.proofs.run.act.Given as goal

abbrev pub invariant-actions : goal.invariant-actions
invariant-actions g l =
    (g.W.ScriptOut.has_failed l.writer ≡ false)
    × IfSome l.due g.P.Action.ScriptAction.allowed
    × Calling g.W.ScriptOut.writes l.initial.writer l.writer (λ x y. Acting g.P.Action.ScriptAction.language g.P.Performer.performs
    l.fn.action l.initial.performer (device_output x l.initial.waiting) l.due l.performer (device_output y l.waiting))

abbrev pub decreases-actions : goal.decreases-actions
decreases-actions g l = length (actions_of g.P.Action.ScriptAction.language l.due)
