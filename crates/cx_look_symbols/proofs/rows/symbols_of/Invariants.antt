use Rattle.std.proofs.Common.{◌≡◌, reverse, take}
use Rattle.cx_asm_expressions.specs.Symbols.{find_in}
use Rattle.cx_look_symbols.specs.Parts.Rows.{table_after}
use Rattle.cx_look_symbols.proofs.rows.symbols_of.Given as goal

abbrev pub invariant-loop-item : goal.invariant-loop-item
invariant-loop-item l = l.rows.entries ≡ table_after (find_in l.symbols) (reverse (take l.item-index l.items))
