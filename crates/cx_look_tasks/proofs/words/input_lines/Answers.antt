use Rattle.std.proofs.lemmas.Option.{slice_get-get_or}
use Rattle.cx_look_tasks.specs.Commands.{input_lines}
use Rattle.cx_look_tasks.proofs.LineLemmas.{each_done, each_goes_on, no_inputs, one_more_input}
use Rattle.cx_look_tasks.proofs.words.input_lines.Goals as goal

pub loop-option-preserved : goal.loop-option-preserved
loop-option-preserved g c =
    each_goes_on (input_lines (g.S.Store.storage c.args.store.now) c.args.call.now) (one_more_input _ _) c.args.options.now c.loop-option.option-index _ _ _ _
    (slice_get-get_or _ _ _ c.loop-option-test.true) c.in_ok-if_input.ensures c.loop-option.invariant

pub returns : goal.returns
returns g c = each_done (input_lines (g.S.Store.storage c.args.store.now) c.args.call.now) (no_inputs _ _) c.args.options.now c.loop-option.option-index _ _ c.loop-option-test.false c.loop-option.invariant
