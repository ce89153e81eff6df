use Rattle.std.proofs.Common.{◌-◌, ◌≤◌}
use Rattle.cx_exec.specs.Advance.{Passes}
use Rattle.cx_exec.specs.Machine.{machine}
use Rattle.cx_look_turn.proofs.machine.pass.Given as goal

-- so many are done
abbrev pub invariant-loop-done : goal.invariant-loop-done
invariant-loop-done g l =
    (l.done ≤ l.count) × Passes l.done (machine l.initial.cpu (g.S.Store.storage l.initial.store)) (machine l.cpu (g.S.Store.storage l.store))

abbrev pub decreases-loop-done : goal.decreases-loop-done
decreases-loop-done g l = l.count - l.done
