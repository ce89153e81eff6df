use Rattle.std.proofs.Common.{◌≡◌, ◌++◌}
use Rattle.std.specs.List.{filter}
use Rattle.cx_asm_expressions.proofs.WeighLemmas.{is_heavy}
use Rattle.cx_asm_expressions.proofs.weights.heavy_sections.Given as goal

abbrev pub invariant-loop-section : goal.invariant-loop-section
invariant-loop-section l =
    l.found.items ++ filter is_heavy l.section-iterator ≡ filter is_heavy l.weights.entries
