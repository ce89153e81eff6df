use Rattle.cx_exec.specs.Machine.{machine}
use Rattle.cx_exec.proofs.TallyLemmas.{IsSoFar}
use Rattle.cx_exec.proofs.tallied.pass.Given as goal

-- as many steps are done, and counted, as fewer are left
abbrev pub invariant-loop-left : goal.invariant-loop-left
invariant-loop-left g l =
    IsSoFar l.steps l.left (machine l.initial.cpu (g.S.Store.storage l.initial.store)) (machine l.cpu (g.S.Store.storage l.store)) l.initial.tallies
    l.tallies

abbrev pub decreases-loop-left : goal.decreases-loop-left
decreases-loop-left g l = l.left
