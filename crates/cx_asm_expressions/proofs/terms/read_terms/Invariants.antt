use Rattle.std.proofs.Common.{◌≡◌, ◌++◌, drop, map}
use Rattle.std.specs.Prelude.{option_map}
use Rattle.cx_ebcdic.specs.Lookup.{each_some}
use Rattle.cx_asm_expressions.specs.Terms.{read_term}
use Rattle.cx_asm_expressions.proofs.terms.read_terms.Given as goal

abbrev pub invariant-loop-part : goal.invariant-loop-part
invariant-loop-part l =
    option_map (λ more. l.terms.items ++ more) (each_some (map read_term (drop l.part-index l.parts))) ≡ each_some (map read_term l.parts)
