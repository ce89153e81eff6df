use Rattle.std.proofs.Common.{arith}
use Rattle.cx_look_turn.proofs.PassLemmas.{one_more}
use Rattle.cx_look_turn.proofs.machine.pass.Goals as goal

pub loop-done-preserved : goal.loop-done-preserved
loop-done-preserved g c =
    let less = c.loop-done-test.true in (
      omega (arith, less),
      one_more c.steps_decide.ensures _ _ _ _ c.args.count _ c.requires c.loop-done-test.true c.loop-done.invariant.1 c.step-end.ensures,
    )
