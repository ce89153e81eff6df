-- What a look writes of the cross-reference of a source (own).
use Rattle.std.specs.Prelude.{ℕ, ◌+◌, ◌%◌, ◌^◌, ◌==◌, ◌&&◌, if◌then◌else◌, List, [], ◌∷◌, ◌++◌, codes, length, map, slice_get, unwrap_or}
use Rattle.std.specs.Fmt.{decimal}
use Rattle.std.specs.List.{flat_map, list_any}
use Rattle.std.specs.Option.{option_map_or}
use Rattle.std.specs.Result.{result_ok}
use Rattle.cx_base.specs.Digits.{digits, hex_digits}
use Rattle.cx_source.specs.declared.source.Source.{Source}
use Rattle.cx_asm_pools.specs.Pools.{PlacedLiterals}
use Rattle.cx_asm_pools.specs.declared.closed.Literal.{Literal}
use Rattle.cx_asm_pass1.specs.PassState.{parts_in}
use Rattle.cx_asm_pass2.specs.Statements.{PlacedStatement, operation_of, statements_of}
use Rattle.cx_asm_pass2.specs.Whole.{Whole, whole_of}
use Rattle.cx_asm.specs.Assembly.{assembly_of, last_line}
use Rattle.cx_look_lines.specs.Words.{look_line, or_none, with_blanks, written_name, Lines}
use Rattle.cx_look_symbols.specs.Placed.{placed_in}
use Rattle.cx_look_symbols.specs.Symbols.{symbols_of}
use Rattle.cx_look_symbols.specs.Texts.{in_order}
use Rattle.cx_look_symbols.specs.declared.rows.Symbol.{Symbol}
use Rattle.cx_look_xref.specs.References.{lines_using, references_of, stores_of}
use Rattle.cx_look_xref.specs.Given.{is_symbol_given, lines_given}
use Rattle.cx_look_xref.specs.Literals.{lines_with, literal_bytes}
use Rattle.cx_look_xref.specs.Usings.{base_registers, use_end}

-- the numbers of the lines that use something, with an asterisk after those that store into it
abbrev pub use_line_word : List ℕ → ℕ → List ℕ
use_line_word storing line = decimal line ++ (if list_any (λ other. other == line) storing then codes "*" else [])

abbrev pub used_word : List ℕ → List ℕ → List ℕ
used_word storing lines =
    codes "USED" ++ with_blanks (if length lines == 0 then codes "NONE" ∷ [] else map (use_line_word storing) lines)

-- ---- symbols
-- a symbol: the line that defines it, and those that use it; none for one that is given and unused
abbrev pub name_line : (List ℕ → List ℕ) → (List ℕ → List ℕ) → List ℕ → List ℕ × Symbol → Lines
name_line storing used given (name, symbol) =
    if is_symbol_given given symbol && (length (used name) == 0) then []
    else look_line
    (codes "XREF" ∷ written_name name ∷ codes "LINE" ∷ decimal symbol.line ∷ used_word (storing name) (used name)
    ∷ [])

-- ---- literals
-- bytes in hexadecimal digits; hyphens where there are none
abbrev pub literal_bytes_word : List ℕ → List ℕ
literal_bytes_word bytes = if length bytes == 0 then codes "--" else hex_digits bytes

-- a literal in the pool of a number: its offset in the control section, its text, its bytes there, and the lines that
-- use it
abbrev pub literal_line : List ℕ → (ℕ → List ℕ → List ℕ) → ℕ → List ℕ × Literal → Lines
literal_line section used pool (text, literal) =
    look_line (codes "XREF" ∷ codes "LITERAL" ∷ digits 16 6 (literal.offset % 2 ^ 24) ∷ (codes "=" ++ text)
    ∷ literal_bytes_word (literal_bytes section text literal) ∷ used_word [] (used pool text) ∷ [])

-- those of all pools from the one of a number on
abbrev pub literals_from : List ℕ → (ℕ → List ℕ → List ℕ) → ℕ → List PlacedLiterals → Lines
literals_from section used number [] = []
literals_from section used number (pool ∷ pools) =
    flat_map (literal_line section used number) pool ++ literals_from section used (number + 1) pools

-- ---- base registers
-- A register that a USING names: the first line and the last of its use, and the place as the USING writes it. `after`
-- are the statements after the USING.
abbrev pub using_line : Whole → ℕ → PlacedStatement → List PlacedStatement → ℕ → Lines
using_line whole last s after register =
    look_line (codes "XREF" ∷ codes "USING" ∷ decimal register ∷ codes "FROM" ∷ decimal s.line
    ∷ codes "TO" ∷ decimal (use_end whole last register after) ∷ unwrap_or (slice_get (parts_in s.stmt) 0) [] ∷ [])

abbrev pub usings_from : Whole → ℕ → List PlacedStatement → Lines
usings_from whole last [] = []
usings_from whole last (s ∷ after) =
    flat_map (using_line whole last s after) (base_registers whole s (operation_of s)) ++ usings_from whole last after

-- ---- all
-- A source whose control section has this text: its symbols in the order of their names, its literals, and its base
-- registers.
abbrev pub xref_made : Source → List ℕ → Lines
xref_made source section =
    flat_map (name_line (lines_using (stores_of source)) (lines_using (references_of source)) (lines_given source))
    (in_order (symbols_of source).rows)
    ++ literals_from section (lines_with (statements_of source)) 0 (whole_of source).pools
    ++ usings_from (whole_of source) (last_line source) (statements_of source)

abbrev pub xref_of : Source → Lines
xref_of source =
    option_map_or (λ made. xref_made source made.section.image.text) (result_ok (assembly_of source)) []

unfoldable pub xref_text : List ℕ → List (List ℕ) → Lines
xref_text program lines =
    or_none (codes "XREF " ++ written_name program) (option_map_or xref_of (placed_in lines) [])
