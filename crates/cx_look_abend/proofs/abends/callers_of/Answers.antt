use Rattle.std.proofs.Common.{arith}
use Rattle.cx_program.specs.Levels.{all_levels}
use Rattle.cx_look_abend.proofs.CallerLemmas.{callers_go_on}
use Rattle.cx_look_abend.proofs.abends.callers_of.Goals as goal

pub loop-index-preserved : goal.loop-index-preserved
loop-index-preserved c = (
  callers_go_on (all_levels c.args.levels.now) c.loop-index.index _ _ c.push_caller.ensures.value c.loop-index.invariant.0,
  omega (arith, c.push_caller.ensures.one, c.loop-index.invariant.1),
  omega (arith, c.loop-index-test.true, c.len-index-end.ensures.callers),
)
