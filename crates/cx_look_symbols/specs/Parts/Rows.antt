-- The symbols of a source by its lines and the table of symbols (own).
use Rattle.std.specs.Prelude.{ℕ, if◌then◌else◌, Option, Some, None, is_some, List, [], ◌∷◌, codes, fold, map}
use Rattle.std.specs.List.{cons_option, filter_map}
use Rattle.std.specs.Map.{lookup}
use Rattle.std.specs.Option.{option_map_or}
use Rattle.std.specs.Str.{bytes_eq}
use Rattle.indexmap.specs.IndexMap.{insert_entry}
use Rattle.cx_source.specs.declared.source.Item.{Item}
use Rattle.cx_source.specs.declared.source.Stmt.{Stmt}
use Rattle.cx_asm_expressions.specs.Names.{is_same, symbol_name}
use Rattle.cx_asm_expressions.specs.declared.values.Value.{Value}
use Rattle.cx_asm_pass1.specs.Given.{aid_rows, register_rows}
use Rattle.cx_asm_pass1.specs.PassState.{name_in, role_in}
use Rattle.cx_asm_pass1.specs.declared.roles.Role.{Role}
use Rattle.cx_asm_pass1.specs.declared.roles.Role.TheVariants.{Registers, Member, Nothing}
use Rattle.cx_look_symbols.specs.Symbols.{Rows, symbol_of}

-- the names among texts
abbrev pub names_among : List (List ℕ) → List (List ℕ)
names_among texts = filter_map symbol_name texts

-- the names that a statement may define
abbrev pub names_given : Role → Option (List ℕ) → List ℕ → List (List ℕ)
names_given Registers name operand = names_among (map (λ row. row.0) register_rows)
names_given Member name operand =
    if bytes_eq operand (codes "DFHAID") then names_among (map (λ row. row.0) aid_rows) else []
names_given Nothing name operand = []
names_given _ name operand = cons_option name []

-- the first line of a name, with the name's value
unfoldable pub with_name : (List ℕ → Option Value) → ℕ → Rows → List ℕ → Rows
with_name find line rows name =
    if is_some (lookup (is_same name) rows) then rows
    else option_map_or (λ value. insert_entry is_same rows name (symbol_of line value)) (find name) rows

abbrev pub with_names : (List ℕ → Option Value) → ℕ → Rows → List (List ℕ) → Rows
with_names find line rows names = fold (with_name find line) rows names

abbrev pub with_stmt : (List ℕ → Option Value) → ℕ → Option Stmt → Rows → Rows
with_stmt find line None rows = rows
with_stmt find line (Some stmt) rows =
    with_names find line rows (names_given (role_in stmt) (name_in stmt) stmt.operand)

abbrev pub table_after : (List ℕ → Option Value) → List Item → Rows
table_after find [] = []
table_after find (item ∷ before) = with_stmt find item.line item.stmt (table_after find before)
