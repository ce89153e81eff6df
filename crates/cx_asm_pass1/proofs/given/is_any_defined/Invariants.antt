use Rattle.std.proofs.Common.{◌≡◌, drop, map}
use Rattle.cx_asm_expressions.specs.Symbols.{find_in}
use Rattle.cx_asm_pass1.specs.Given.{is_any_known, row_symbols}
use Rattle.cx_asm_pass1.proofs.given.is_any_defined.Given as goal

abbrev pub invariant-loop-row : goal.invariant-loop-row
invariant-loop-row l =
    is_any_known (find_in l.symbols) (row_symbols (map (λ row. (row.0.now, row.1)) (drop l.row-index l.rows)))
    ≡ is_any_known (find_in l.symbols) (row_symbols (map (λ row. (row.0.now, row.1)) l.rows))
