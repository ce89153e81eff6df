-- The statements of a source, each with its line and its place (GC33-4010, "Assembler Language Coding Conventions"; the
-- numbers are own).
use Rattle.std.specs.Prelude.{ℕ, Option, option_and_then, option_map, List, [], ◌∷◌, reverse, codes}
use Rattle.std.specs.List.{zip, find, filter_map}
use Rattle.std.specs.Str.{bytes_eq}
use Rattle.cx_source.specs.declared.source.Item.{Item}
use Rattle.cx_source.specs.declared.source.Source.{Source}
use Rattle.cx_source.specs.declared.source.Stmt.{Stmt}
use Rattle.cx_asm_operations.specs.Operations.{operation_named}
use Rattle.cx_asm_operations.specs.declared.operations.Operation.{Operation}
use Rattle.cx_asm_pass1.specs.PassState.{state_after, parts_in, place_in}
use Rattle.cx_asm_pass1.specs.declared.place.Place.{Place}

-- A line, and the place of its statement, if it has one.
pub record PlacedItem : Type 0 where
  pub item : Item
  pub place : Option Place

-- the lines, the latest first
abbrev pub placed_latest_first : List Item → List PlacedItem
placed_latest_first [] = []
placed_latest_first (item ∷ before) =
    record { item = item; place = option_map (λ s. place_in s (state_after before)) item.stmt }
    ∷ placed_latest_first before

-- the lines of a source in its order
unfoldable pub placed_of : Source → List PlacedItem
placed_of source = reverse (placed_latest_first (reverse source.items))

-- A statement with its line's number and its place.
pub record PlacedStatement : Type 0 where
  pub line : ℕ
  pub stmt : Stmt
  pub place : Place

abbrev pub placed_statement : ℕ → Stmt → Place → PlacedStatement
placed_statement line stmt place = record { line = line; stmt = stmt; place = place }

abbrev pub stated_in : PlacedItem → Option PlacedStatement
stated_in placed =
    option_and_then (λ stmt. option_map (placed_statement placed.item.line stmt) placed.place) placed.item.stmt

-- the statements of a source in its order
abbrev pub statements_of : Source → List PlacedStatement
statements_of source = filter_map stated_in (placed_of source)

-- ---- a statement
abbrev pub operation_of : PlacedStatement → Option Operation
operation_of s = operation_named s.stmt.operation

-- the items of a DS or DC, each with its offset
abbrev pub placed_items : PlacedStatement → List (List ℕ × ℕ)
placed_items s = zip (parts_in s.stmt) s.place.items

-- the first END
abbrev pub first_end : List PlacedStatement → Option PlacedStatement
first_end statements = find (λ s. bytes_eq s.stmt.operation (codes "END")) statements
