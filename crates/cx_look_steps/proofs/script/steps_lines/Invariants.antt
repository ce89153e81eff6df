use Rattle.std.proofs.Common.{◌≡◌, ◌++◌, None, drop}
use Rattle.cx_look_steps.specs.Script.{steps_lines}
use Rattle.cx_look_steps.proofs.script.steps_lines.Given as goal

abbrev pub invariant-loop-step : goal.invariant-loop-step
invariant-loop-step g l =
    l.report ++ steps_lines l.region l.keys l.row (drop l.step-index l.steps) ≡ l.initial.report ++ steps_lines l.region l.keys None l.steps
