use Rattle.std.proofs.Common.{◌++◌, arith}
use Rattle.cx_look.specs.Choices.{lines_meant}
use Rattle.cx_look.specs.Parts.{choices_in}
use Rattle.cx_look.proofs.ChoiceLemmas.{added_all}
use Rattle.cx_look.proofs.choices.add_choices.Goals as goal

pub returns-clause-value : goal.returns-clause-value
returns-clause-value c =
    added_all c.loop-number.keys.items (c.args.keys.now.items ++ choices_in c.args.text.now) (lines_meant c.args.text.now) c.loop-number.number
    (let counted = c.count_meant-number-end.ensures.value in omega (arith, counted, c.loop-number-test.false)) c.loop-number.invariant.are

pub returns-clause-keys_in_range : goal.returns-clause-keys_in_range
returns-clause-keys_in_range c = c.loop-number.invariant.in_range
