use Rattle.std.proofs.Common.{◌∙◌}
use Rattle.std.proofs.lemmas.Option.{slice_get-get_or}
use Rattle.cx_region_task.proofs.HandleLemmas.{labels_step}
use Rattle.cx_region_task.proofs.making.handle_all.Goals as goal

pub loop-listed-preserved : goal.loop-listed-preserved
loop-listed-preserved c = labels_step _ _ c.args.conditions.now c.loop-listed.listed-index _ (slice_get-get_or _ _ _ c.loop-listed-test.true) c.handle_one.ensures ∙ c.loop-listed.invariant
