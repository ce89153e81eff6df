use Rattle.std.proofs.Common.{◌∙◌}
use Rattle.cx_region_task.proofs.UnwindLemmas.{unwound_more}
use Rattle.cx_region_task.proofs.abending.unwind.Goals as goal

pub loop-level-preserved : goal.loop-level-preserved
loop-level-preserved g c =
    unwound_more c.args.count c.loop-level._level _ _ _ _ _ _ _ c.loop-level-test.true c.in-Some.ensures.above c.in-Some.ensures.left c.free_stg.ensures
    ∙ c.loop-level.invariant
