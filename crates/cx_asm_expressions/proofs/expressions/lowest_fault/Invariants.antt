use Rattle.std.proofs.Common.{◌≡◌, drop}
use Rattle.cx_asm_expressions.specs.Faults.{lower}
use Rattle.std.specs.Option.{option_copied}
use Rattle.cx_asm_expressions.specs.Symbols.{find_in}
use Rattle.cx_asm_expressions.specs.Expressions.{lowest_fault}
use Rattle.cx_asm_expressions.proofs.expressions.lowest_fault.Given as goal

abbrev pub invariant-loop-term : goal.invariant-loop-term
invariant-loop-term l =
    lower l.fault (lowest_fault (find_in l.symbols) (option_copied l.here) (drop l.term-index l.terms)) ≡ lowest_fault (find_in l.symbols) (option_copied l.here) l.terms
