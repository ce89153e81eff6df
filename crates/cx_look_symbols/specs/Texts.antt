-- What looks write of symbols (own).
use Rattle.std.specs.Prelude.{ℕ, ◌+◌, ◌%◌, ◌^◌, ℤ, pos, int_le, int_lt, Bool, ◌&&◌, if◌then◌else◌, Option, Some, None, option_and_then, option_map, unsigned_abs, List, [], ◌∷◌, ◌++◌, codes, fold}
use Rattle.std.specs.BTreeMap.{insert_entry}
use Rattle.std.specs.Cmp.Lexicographic.{slice_cmp}
use Rattle.std.specs.Fmt.{decimal}
use Rattle.std.specs.Int.{int_rem_euclid}
use Rattle.std.specs.List.{flat_map}
use Rattle.std.specs.Map.{lookup}
use Rattle.std.specs.Option.{option_map_or}
use Rattle.std.specs.Ordering.{nat_cmp}
use Rattle.cx_base.specs.Digits.{digits}
use Rattle.cx_load.specs.declared.program.Loaded.{Loaded}
use Rattle.cx_asm_expressions.specs.Names.{is_same}
use Rattle.cx_asm_expressions.specs.declared.values.Value.{Value}
use Rattle.cx_asm_pass1.specs.Given.{is_in_range}
use Rattle.cx_asm_pass1.specs.PassState.{is_control}
use Rattle.cx_look_lines.specs.Words.{look_line, or_none, written_name, Lines}
use Rattle.cx_look_symbols.specs.Symbols.{Rows, named_in}
use Rattle.cx_look_symbols.specs.declared.rows.Symbol.{Symbol}

-- not negative, and below a number
abbrev pub is_natural_below : ℤ → ℕ → Bool
is_natural_below number high = int_le (pos 0) number && int_lt number (pos high)

-- A value in hexadecimal digits: six where it is one of 24 bits, else eight, in two's complement; hyphens for an offset
-- beyond a word.
abbrev pub value_word : ℤ → List ℕ
value_word number =
    if is_natural_below number (2 ^ 24) then digits 16 6 (unsigned_abs number)
    else (if is_in_range number then digits 16 8 (unsigned_abs (int_rem_euclid number (pos (2 ^ 32)))) else codes "--")

-- the offset of a value in a section, up to a most
abbrev pub offset_up_to : ℕ → Option (List ℕ) → Value → Option ℕ
offset_up_to most section value =
    if is_control value.section section && is_natural_below value.number (most + 1)
    then Some (unsigned_abs value.number) else None

-- where a value is in a loaded program: in the control section, from its first byte to its end
abbrev pub address_of_value : Option (List ℕ) → Value → Loaded → Option ℕ
address_of_value control value loaded =
    option_map (λ offset. (loaded.at + offset) % 2 ^ 24) (offset_up_to loaded.len control value)

-- a symbol: its value, the section that this is an offset in, its length attribute, the line that defines it, and its
-- address
abbrev pub symbol_line : Option (List ℕ) → Option Loaded → List ℕ × Symbol → Lines
symbol_line control program (name, symbol) =
    let section = option_map_or (λ it. codes "SECTION " ++ written_name it) symbol.value.section (codes "ABSOLUTE") in
    let address = option_and_then (address_of_value control symbol.value) program in
    look_line
    (codes "SYMBOL" ∷ written_name name ∷ codes "VALUE" ∷ value_word symbol.value.number ∷ section
    ∷ codes "LENGTH" ∷ decimal symbol.value.length ∷ codes "LINE" ∷ decimal symbol.line
    ∷ option_map_or (λ at. codes "AT" ∷ digits 16 6 at ∷ []) address [])

-- ---- one symbol
abbrev pub symbol_found : Option (List ℕ) → Option Loaded → List ℕ → Option Symbol → Lines
symbol_found control program name None = look_line (codes "SYMBOL" ∷ written_name name ∷ codes "NONE" ∷ [])
symbol_found control program name (Some symbol) = symbol_line control program (name, symbol)

unfoldable pub symbol_text : Option Loaded → List (List ℕ) → List ℕ → Lines
symbol_text program lines name =
    option_map_or (λ it. symbol_found it.control program name (lookup (is_same name) it.rows)) (named_in lines)
    (symbol_found None program name None)

-- ---- all symbols
-- in the order of their names, by the codes of their characters
abbrev pub in_order : Rows → Rows
in_order rows = fold (λ sorted row. insert_entry (slice_cmp nat_cmp) sorted row.0 row.1) [] rows

unfoldable pub symbols_text : Option Loaded → List ℕ → List (List ℕ) → Lines
symbols_text program name lines =
    or_none (codes "SYMBOLS " ++ written_name name)
    (option_map_or (λ it. flat_map (symbol_line it.control program) (in_order it.rows)) (named_in lines) [])
