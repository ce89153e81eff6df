use Rattle.std.proofs.Common.{◌≡◌, ◌++◌, drop}
use Rattle.std.specs.Option.{option_copied}
use Rattle.cx_asm_expressions.specs.Symbols.{find_in}
use Rattle.std.specs.List.{filter_map}
use Rattle.cx_asm_expressions.specs.Expressions.{signed_value}
use Rattle.cx_asm_expressions.proofs.expressions.values_of.Given as goal

abbrev pub invariant-loop-term : goal.invariant-loop-term
invariant-loop-term l =
    l.values.items ++ filter_map (signed_value (find_in l.symbols) (option_copied l.here)) (drop l.term-index l.terms) ≡ filter_map (signed_value (find_in l.symbols) (option_copied l.here)) l.terms
