use Rattle.std.proofs.Common.{◌≡◌, drop}
use Rattle.cx_translate.specs.Refusals.{has_twice}
use Rattle.cx_translate.proofs.refusals.has_twice.Given as goal

abbrev pub invariant-loop-i : goal.invariant-loop-i
invariant-loop-i l = has_twice (drop l.i l.words) ≡ has_twice l.words
