use Rattle.std.proofs.lemmas.Option.{slice_get-get_or}
use Rattle.cx_look_tasks.specs.Commands.{option_words}
use Rattle.cx_look_lines.specs.Words.{with_blanks}
use Rattle.cx_look_tasks.proofs.LineLemmas.{each_done, each_goes_on, no_options, one_more_option}
use Rattle.cx_look_tasks.proofs.words.push_options.Goals as goal

pub loop-option-preserved : goal.loop-option-preserved
loop-option-preserved g c =
    each_goes_on (λ options. with_blanks (option_words (g.S.Store.storage c.args.store.now) c.args.call.now options)) (one_more_option _ _) c.args.options.now c.loop-option.option-index _ _ _ _
    (slice_get-get_or _ _ _ c.loop-option-test.true) c.in_ok-push_option.ensures c.loop-option.invariant

pub returns : goal.returns
returns g c = each_done (λ options. with_blanks (option_words (g.S.Store.storage c.args.store.now) c.args.call.now options)) (no_options _ _) c.args.options.now c.loop-option.option-index _ _ c.loop-option-test.false c.loop-option.invariant
