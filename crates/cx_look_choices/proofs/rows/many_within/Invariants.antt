use Rattle.cx_look_choices.proofs.RowLemmas.{AreWithin}
use Rattle.cx_look_choices.proofs.rows.many_within.Given as goal

abbrev pub invariant-loop-place : goal.invariant-loop-place
invariant-loop-place g l = AreWithin l.found.states.entries l.moves l.place
