use Rattle.std.proofs.Common.{◌≡◌, None, drop}
use Rattle.cx_asm_operands.proofs.NearestLemmas.{nearest_from}
use Rattle.cx_asm_operands.proofs.addresses.nearest.Given as goal

abbrev pub invariant-loop-register : goal.invariant-loop-register
invariant-loop-register l = nearest_from l.found l.register l.section l.number (drop l.register l.bases) ≡ nearest_from None 0 l.section l.number l.bases
