-- The symbols of a source's lines (GC33-4010, "Symbols").
use Rattle.std.specs.Prelude.{ℕ, Option, Some, None, option_map, List, [], ◌∷◌, ◌++◌, map, reverse}
use Rattle.cx_source.specs.declared.source.Item.{Item}
use Rattle.cx_source.specs.declared.source.Source.{Source}
use Rattle.cx_source.specs.declared.source.Stmt.{Stmt}
use Rattle.cx_asm_expressions.specs.declared.values.Value.{Value}
use Rattle.cx_asm_pass1.specs.PassState.{PassState, definitions_in, state_after}
use Rattle.cx_asm_pass1.specs.Locations.{final_state}
use Rattle.cx_look_symbols.specs.Placed.{placed_in}
use Rattle.cx_look_symbols.specs.declared.rows.Symbol.{Symbol}

abbrev pub Rows : Type 0
Rows = List (List ℕ × Symbol)

abbrev pub symbol_of : ℕ → Value → Symbol
symbol_of line value = record { value = value; line = line }

-- the symbols that a line's statement defines
abbrev pub rows_on : ℕ → Option Stmt → PassState → Rows
rows_on line None state = []
rows_on line (Some stmt) state = map (λ symbol. (symbol.0, symbol_of line symbol.1)) (definitions_in stmt state)

-- those of lines in the source's order; the lines the latest first
abbrev pub rows_after : List Item → Rows
rows_after [] = []
rows_after (item ∷ before) = rows_after before ++ rows_on item.line item.stmt (state_after before)

-- the control section of a source, and its symbols
pub record SourceSymbols : Type 0 where
  pub control : Option (List ℕ)
  pub rows : Rows

abbrev pub symbols_of : Source → SourceSymbols
symbols_of source = record { control = (final_state source).control; rows = rows_after (reverse source.items) }

-- those of lines; None where these aren't a source without a fault
unfoldable pub named_in : List (List ℕ) → Option SourceSymbols
named_in lines = option_map symbols_of (placed_in lines)
