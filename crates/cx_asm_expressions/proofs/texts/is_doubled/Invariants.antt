use Rattle.std.proofs.Common.{◌≡◌, false, drop}
use Rattle.cx_asm_expressions.specs.Texts.{is_doubled}
use Rattle.cx_asm_expressions.proofs.texts.is_doubled.Given as goal

abbrev pub invariant-loop-c : goal.invariant-loop-c
invariant-loop-c l = is_doubled l.mark l.opened (drop l.c-index l.body) ≡ is_doubled l.mark false l.body
