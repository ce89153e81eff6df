use Rattle.cx_exec.specs.Machine.{machine}
use Rattle.cx_exec.proofs.WatchLemmas.{IsSoFar}
use Rattle.cx_exec.proofs.watched.pass.Given as goal

-- as many steps are done, and noted, as fewer are left, and what is held is of the storage as it is
abbrev pub invariant-loop-left : goal.invariant-loop-left
invariant-loop-left g l =
    IsSoFar g.W.Watcher.noted g.W.Watcher.is_of l.steps l.left (machine l.initial.cpu (g.S.Store.storage l.initial.store))
    (machine l.cpu (g.S.Store.storage l.store)) l.initial.watcher l.watcher

abbrev pub decreases-loop-left : goal.decreases-loop-left
decreases-loop-left g l = l.left
