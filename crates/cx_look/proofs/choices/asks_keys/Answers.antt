use Rattle.std.proofs.Common.{arith}
use Rattle.cx_look.specs.Choices.{lines_meant}
use Rattle.cx_look.proofs.ChoiceLemmas.{all_asked, are_asked, asked}
use Rattle.cx_look.proofs.choices.asks_keys.Goals as goal

pub returns : goal.returns
returns c =
    asked c.args.text.now c.count_meant-count.result c.count_meant-count.ensures.value
    (all_asked (lines_meant c.args.text.now) c.loop-number.number (are_asked (lines_meant c.args.text.now))
    (let counted = c.count_meant-count.ensures.value in omega (arith, counted, c.loop-number-test.false)) c.loop-number.invariant)
