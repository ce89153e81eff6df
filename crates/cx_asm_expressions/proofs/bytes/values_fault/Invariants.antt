use Rattle.std.proofs.Common.{◌≡◌, drop, map}
use Rattle.cx_asm_expressions.specs.Faults.{lower}
use Rattle.cx_asm_expressions.proofs.ByteLemmas.{values_fault}
use Rattle.cx_asm_expressions.proofs.bytes.values_fault.Given as goal

abbrev pub invariant-loop-value : goal.invariant-loop-value
invariant-loop-value l =
    lower l.fault (values_fault l.kind l.modifier (map (λ value. value.now) (drop l.value-index l.values)))
    ≡ values_fault l.kind l.modifier (map (λ value. value.now) l.values)
