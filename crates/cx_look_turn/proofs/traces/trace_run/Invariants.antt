use Rattle.std.proofs.Common.{◌-◌}
use Rattle.cx_exec.specs.Machine.{machine}
use Rattle.cx_look_turn.proofs.TraceLemmas.{IsSoFar}
use Rattle.cx_look_turn.proofs.traces.trace_run.Given as goal

abbrev pub invariant-loop-trace : goal.invariant-loop-trace
invariant-loop-trace g l =
    IsSoFar l.limit l.most (machine l.initial.cpu (g.S.Store.storage l.initial.store)) (machine l.cpu (g.S.Store.storage l.store)) l.trace.count l.trace.last

abbrev pub decreases-loop-trace : goal.decreases-loop-trace
decreases-loop-trace g l = l.limit - l.trace.count
