use Rattle.cx_choices.proofs.ActingLemmas.{AreStill}
use Rattle.cx_choices.proofs.acting.first_to_act.Given as goal

abbrev pub invariant-loop-number : goal.invariant-loop-number
invariant-loop-number g l = AreStill l.region l.number
