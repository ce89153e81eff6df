use Rattle.std.proofs.Common.{◌≡◌, ℕ, List, drop, map}
use Rattle.std.specs.Option.{option_or}
use Rattle.cx_asm_expressions.specs.Symbols.{find_in}
use Rattle.cx_asm_pass1.specs.Given.{row_symbols}
use Rattle.cx_asm_pass1.proofs.given.define_rows.Given as goal

abbrev pub invariant-loop-row : goal.invariant-loop-row
invariant-loop-row l = (other : List ℕ)
    → option_or (find_in l.symbols other) (find_in (row_symbols (map (λ row. (row.0.now, row.1)) (drop l.row-index l.rows))) other)
    ≡ option_or (find_in l.initial.symbols other) (find_in (row_symbols (map (λ row. (row.0.now, row.1)) l.rows)) other)
