use Rattle.std.proofs.Common.{arith}
use Rattle.cx_look_turn.specs.Facts.Left.{passes_more}
use Rattle.cx_look_turn.proofs.AfterLemmas.{fewer_at_entry, fewer_interrupted}
use Rattle.cx_look_turn.proofs.machine.pass_all.Goals as goal

pub loop-passed-preserved : goal.loop-passed-preserved
loop-passed-preserved g c =
    let less = c.loop-passed-test.true in (
      omega (arith, less),
      passes_more c.loop-passed.passed _ _ _ c.loop-passed.invariant.1 c.in-Done.ensures,
    )

pub returns-in-AtEntry : goal.returns-in-AtEntry
returns-in-AtEntry g c =
    fewer_at_entry c.steps_decide.ensures c.loop-passed.passed c.args.count _ _ _ c.loop-passed-test.true c.loop-passed.invariant.1 c.in-AtEntry.ensures

pub returns-in-Interrupt : goal.returns-in-Interrupt
returns-in-Interrupt g c =
    fewer_interrupted c.steps_decide.ensures c.loop-passed.passed c.args.count _ _ _ _ c.loop-passed-test.true c.loop-passed.invariant.1
    c.in-Interrupt.ensures
