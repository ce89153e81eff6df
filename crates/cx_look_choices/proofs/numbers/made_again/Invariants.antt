use Rattle.cx_look_choices.proofs.NumberLemmas.{IsAgain}
use Rattle.cx_look_choices.proofs.numbers.made_again.Given as goal

abbrev pub invariant-loop-press : goal.invariant-loop-press
invariant-loop-press g l = IsAgain l.choices.choices.items l.fn.start l.presses l.press-index l.at
