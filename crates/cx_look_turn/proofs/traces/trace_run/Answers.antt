use Rattle.cx_look_turn.specs.Facts.Left.{left_at_entry, left_at_limit, left_interrupted}
use Rattle.cx_look_turn.proofs.TraceLemmas.{at_entry, at_limit, interrupted, one_more}
use Rattle.cx_look_turn.proofs.traces.trace_run.Goals as goal

pub loop-trace-preserved : goal.loop-trace-preserved
loop-trace-preserved g c =
    one_more c.args.limit c.args.most _ _ _ _ _ _ _ c.loop-trace.invariant c.loop-trace-test.true c.in-Done.ensures.steps c.in-Done.ensures.count
    c.in-Done.ensures.last

pub returns-in-AtEntry-clause-trace : goal.returns-in-AtEntry-clause-trace
returns-in-AtEntry-clause-trace g c =
    at_entry c.args.limit c.args.most _ _ _ _ _ _ _ c.loop-trace.invariant c.loop-trace-test.true c.in-AtEntry.ensures.steps c.in-AtEntry.ensures.count
    c.in-AtEntry.ensures.last

pub returns-in-AtEntry-clause-leaves : goal.returns-in-AtEntry-clause-leaves
returns-in-AtEntry-clause-leaves g c =
    left_at_entry c.args.limit _ _ _ _ c.loop-trace-test.true c.loop-trace.invariant.2 c.in-AtEntry.ensures.steps

pub returns-in-Interrupt-clause-trace : goal.returns-in-Interrupt-clause-trace
returns-in-Interrupt-clause-trace g c =
    interrupted c.args.limit c.args.most _ _ _ _ _ _ _ _ c.loop-trace.invariant c.loop-trace-test.true c.in-Interrupt.ensures.steps
    c.in-Interrupt.ensures.count c.in-Interrupt.ensures.last

pub returns-in-Interrupt-clause-leaves : goal.returns-in-Interrupt-clause-leaves
returns-in-Interrupt-clause-leaves g c =
    left_interrupted c.args.limit _ _ _ _ _ c.loop-trace-test.true c.loop-trace.invariant.2 c.in-Interrupt.ensures.steps

pub returns-clause-trace : goal.returns-clause-trace
returns-clause-trace g c = at_limit c.args.limit c.args.most _ _ _ _ c.loop-trace.invariant c.loop-trace-test.false

pub returns-clause-leaves : goal.returns-clause-leaves
returns-clause-leaves g c = left_at_limit c.args.limit _ _ _ c.loop-trace.invariant.0 c.loop-trace-test.false c.loop-trace.invariant.2
