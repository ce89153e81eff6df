use Rattle.std.proofs.Common.{◌≡◌, ◌++◌, drop, map}
use Rattle.cx_asm_expressions.proofs.ByteLemmas.{values_bytes}
use Rattle.cx_asm_expressions.proofs.bytes.values_bytes.Given as goal

abbrev pub invariant-loop-value : goal.invariant-loop-value
invariant-loop-value l =
    l.found.items ++ values_bytes l.kind l.modifier (map (λ value. value.now) (drop l.value-index l.values))
    ≡ values_bytes l.kind l.modifier (map (λ value. value.now) l.values)
