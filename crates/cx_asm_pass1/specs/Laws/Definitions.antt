-- Every name has one value (GC33-4010, "Symbols").
use Rattle.std.specs.Prelude.{Option, Some, None, List, [], ◌∷◌, ◌++◌}
use Rattle.cx_source.specs.declared.source.Item.{Item}
use Rattle.cx_source.specs.declared.source.Stmt.{Stmt}
use Rattle.cx_asm_expressions.specs.Symbols.{Symbols}
use Rattle.cx_asm_pass1.specs.PassState.{PassState, definitions_in, state_after}

-- all that the statements of lines define, in the source's order; the lines the latest first
abbrev pub definitions_at : Option Stmt → PassState → Symbols
definitions_at None state = []
definitions_at (Some stmt) state = definitions_in stmt state

abbrev pub definitions_after : List Item → Symbols
definitions_after [] = []
definitions_after (item ∷ before) = definitions_after before ++ definitions_at item.stmt (state_after before)
