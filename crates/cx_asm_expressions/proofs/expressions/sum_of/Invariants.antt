use Rattle.std.proofs.Common.{◌≡◌, drop}
use Rattle.std.specs.Prelude.{pos}
use Rattle.cx_asm_expressions.specs.Expressions.{sum_from}
use Rattle.cx_asm_expressions.proofs.expressions.sum_of.Given as goal

abbrev pub invariant-loop-value : goal.invariant-loop-value
invariant-loop-value l = sum_from l.total (drop l.value-index l.values) ≡ sum_from (pos 0) l.values
