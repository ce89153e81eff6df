use Rattle.std.proofs.Common.{◌-◌, ◌≤◌}
use Rattle.cx_exec.specs.Machine.{machine}
use Rattle.cx_exec.specs.Advance.{Passes}
use Rattle.cx_exec.proofs.runs.pass.Given as goal

-- as many steps are done as fewer are left
abbrev pub invariant-loop-left : goal.invariant-loop-left
invariant-loop-left g l =
    (l.left ≤ l.steps) × Passes (l.steps - l.left) (machine l.initial.cpu (g.S.Store.storage l.initial.store)) (machine l.cpu (g.S.Store.storage l.store))

abbrev pub decreases-loop-left : goal.decreases-loop-left
decreases-loop-left g l = l.left
