use Rattle.cx_program.specs.Levels.{all_levels}
use Rattle.cx_look_fields.proofs.LevelLemmas.{levels_done, levels_go_on}
use Rattle.cx_look_fields.proofs.levels.levels_text.Goals as goal

pub loop-index-preserved : goal.loop-index-preserved
loop-index-preserved g c = levels_go_on c.args.sources.now c.args.shared.now (all_levels c.args.levels.now) c.loop-index.index _ _ _ c.in_ok-level_at.ensures c.loop-index.invariant

pub returns : goal.returns
returns g c =
    levels_done c.args.sources.now c.args.shared.now (all_levels c.args.levels.now) c.loop-index.index _ _ (rw c.len-index-end.ensures.value at c.loop-index-test.false) c.loop-index.invariant
