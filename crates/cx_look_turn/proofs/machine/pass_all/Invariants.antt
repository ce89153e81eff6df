use Rattle.std.proofs.Common.{◌-◌, ◌≤◌}
use Rattle.cx_exec.specs.Advance.{Passes}
use Rattle.cx_exec.specs.Machine.{machine}
use Rattle.cx_look_turn.proofs.machine.pass_all.Given as goal

-- so many are done
abbrev pub invariant-loop-passed : goal.invariant-loop-passed
invariant-loop-passed g l =
    (l.passed ≤ l.count) × Passes l.passed (machine l.initial.cpu (g.S.Store.storage l.initial.store)) (machine l.cpu (g.S.Store.storage l.store))

abbrev pub decreases-loop-passed : goal.decreases-loop-passed
decreases-loop-passed g l = l.count - l.passed
