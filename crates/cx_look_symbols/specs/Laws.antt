-- What is beside a statement in the listing; which line a command has; which symbols are reported.
use Rattle.std.specs.Prelude.{◌≡◌, ◌≤◌, ◌<◌, ℕ, ◌+◌, ◌-◌, Option, Some, None, List, [], Contains, length, option_and_then, option_map, take, drop}
use Rattle.std.specs.List.{AllByRecursion}
use Rattle.std.specs.Map.{lookup}
use Rattle.std.specs.Option.{option_map_or}
use Rattle.cx_load.specs.declared.program.Loaded.{Loaded}
use Rattle.cx_asm_expressions.specs.Digits.{bound}
use Rattle.cx_source.specs.declared.source.Source.{Source}
use Rattle.cx_asm_expressions.specs.Names.{is_same}
use Rattle.cx_asm_pass1.specs.Locations.{final_state}
use Rattle.cx_asm_pass2.specs.Statements.{PlacedStatement}
use Rattle.cx_asm_pass2.specs.Whole.{Whole}
use Rattle.cx_asm.specs.Listing.{object_of}
use Rattle.cx_look_symbols.specs.Lines.{SourcePlaces, line_in}
use Rattle.cx_look_symbols.specs.Places.{spot_before}
use Rattle.cx_look_symbols.specs.Statements.{statement_place_of}
use Rattle.cx_look_symbols.specs.Symbols.{SourceSymbols, symbols_of}
use Rattle.cx_look_symbols.specs.declared.statements.StatementPlace.{StatementPlace}

-- the bytes of a section's text at a place; none without one
abbrev pub text_bytes_at : List ℕ → Option StatementPlace → List ℕ
text_bytes_at text place = option_map_or (λ it. take (it.end - it.start) (drop it.start text)) place []

-- The bytes that are listed beside a statement are those at its place; none where it has no place.
abbrev pub ListedThere : Type 0
ListedThere = (whole : Whole) (text : List ℕ) (s : PlacedStatement) → length text ≤ bound
    → object_of whole text s ≡ text_bytes_at text (statement_place_of whole.control s)

-- The byte before an address is in a program that a source defined, and is one of the bytes of a statement on this
-- line.
pub record IsBeforeInSource (sources : SourcePlaces) (programs : List (List ℕ × Loaded)) (address line : ℕ)
    : Type 0 where
  pub program : List ℕ × Loaded
  pub among : Contains programs program
  pub starts : program.1.at < address
  pub ends : address ≤ program.1.at + program.1.len
  pub statements : List StatementPlace
  pub of_source : lookup (is_same program.0) sources ≡ Some statements
  pub statement : StatementPlace
  pub of_statements : Contains statements statement
  pub first : program.1.at + statement.start < address
  pub last : address ≤ program.1.at + statement.end
  pub is : statement.line ≡ line

-- a command has a line only where the byte before the address to which it leads back is so
abbrev pub LinesAreInSources : Type 0
LinesAreInSources = (sources : SourcePlaces) (programs : List (List ℕ × Loaded)) (address line : ℕ)
    → option_and_then (λ it. line_in sources it.program it.offset) (spot_before programs address) ≡ Some line
    → IsBeforeInSource sources programs address line

-- Each symbol of a source has the value by which the assembler looks its name up, and a name that is looked up among
-- them has the assembler's value, or none.
pub record AreLookedUp (source : Source) (named : SourceSymbols) : Type 0 where
  pub values : AllByRecursion (λ row. (final_state source).symbols row.0 ≡ Some row.1.value) named.rows
  pub found : (name : List ℕ)
      → option_map (λ symbol. symbol.value) (lookup (is_same name) named.rows) ≡ (final_state source).symbols name

abbrev pub SymbolsAreLookedUp : Type 0
SymbolsAreLookedUp =
    (source : Source) → (final_state source).fault ≡ None → AreLookedUp source (symbols_of source)
