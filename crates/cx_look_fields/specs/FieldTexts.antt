-- FIELD and FIELDS: what is written of a level's fields (own).
use Rattle.std.specs.Prelude.{ℕ, min, Bool, true, ◌&&◌, if◌then◌else◌, Option, None, option_and_then, option_map, List, [], ◌∷◌, ◌++◌, codes}
use Rattle.std.specs.Fmt.{decimal}
use Rattle.std.specs.List.{flat_map, list_any}
use Rattle.std.specs.Map.{lookup}
use Rattle.std.specs.Option.{option_map_or}
use Rattle.cx_storage.specs.Storage.{Storage, span}
use Rattle.cx_base.specs.Digits.{digits, hex_digits}
use Rattle.cx_base.specs.Texts.{shown_name, shown_text}
use Rattle.cx_region.specs.State.{RegionState}
use Rattle.cx_region.specs.Tables.{task_of}
use Rattle.cx_ebcdic.specs.Names.{is_name}
use Rattle.cx_asm_expressions.specs.Names.{is_same}
use Rattle.cx_look_lines.specs.Words.{in_apostrophes, look_line, or_none, written_name, Lines}
use Rattle.cx_look_symbols.specs.declared.rows.Symbol.{Symbol}
use Rattle.cx_look_fields.specs.Readings.{reading_named}
use Rattle.cx_look_fields.specs.Texts.{value_text}
use Rattle.cx_look_fields.specs.declared.readings.NamedReading.{NamedReading}
use Rattle.cx_look_fields.specs.declared.readings.Reading.{Reading}
use Rattle.cx_look_fields.specs.Fields.{LevelFields, field_by, fields_at, is_field, standing_in}
use Rattle.cx_look_fields.specs.declared.fields.Field.{Field}
use Rattle.cx_look_fields.specs.declared.fields.TypedField.{TypedField}
use Rattle.cx_look_fields.specs.declared.standing.Standing.{Standing}

-- ---- a field: its address, its length, its first 32 bytes in hexadecimal digits and in characters, and the number
-- that they are; hyphens where one of them isn't in storage
abbrev pub field_bytes_word : Option Reading → Option (List ℕ) → List ℕ
field_bytes_word reading bytes =
    option_map_or (λ it. hex_digits it ++ codes " " ++ in_apostrophes (shown_text it) ++ value_text reading it) bytes
    (codes "--")

abbrev pub typed : List NamedReading → List ℕ → Field → TypedField
typed readings name field = record { field = field; reading = reading_named readings name }

unfoldable pub field_words : List ℕ → List ℕ → Field → List ℕ → Lines
field_words term name field bytes =
    look_line (codes "FIELD" ∷ shown_name term ∷ written_name name ∷ codes "AT" ∷ digits 16 6 field.address
    ∷ codes "LENGTH" ∷ decimal field.length ∷ bytes ∷ [])

abbrev pub field_line : Storage → List ℕ → List ℕ → TypedField → Lines
field_line storage term name it =
    field_words term name it.field
    (field_bytes_word it.reading (span storage it.field.address (min 32 it.field.length)))

-- ---- one field
-- that of a symbol, and how it is read
abbrev pub typed_field : LevelFields → List ℕ × Symbol → Option TypedField
typed_field it (name, symbol) = option_map (typed it.readings name) (field_by it.regs it.bases symbol.value)

-- that of a name
abbrev pub named_field : List ℕ → LevelFields → Option TypedField
named_field name it = option_and_then (λ symbol. typed_field it (name, symbol)) (lookup (is_same name) it.named.rows)

abbrev pub field_there : List (List ℕ) → List ℕ → Standing → Option TypedField
field_there lines name standing = option_and_then (named_field name) (fields_at lines standing)

abbrev pub standing_at : RegionState → List ℕ → Option ℕ → Option Standing
standing_at region term k = option_and_then (λ task. standing_in region.shared.programs task k) (task_of region term)

-- the program of a level, in whose source its names are
abbrev pub level_program : RegionState → List ℕ → Option ℕ → Option (List ℕ)
level_program region term k = option_map (λ standing. standing.program) (standing_at region term k)

unfoldable pub field_text : RegionState → List (List ℕ) → List ℕ → List ℕ → Option ℕ → Lines
field_text region lines term name k =
    option_map_or (field_line region.shared.storage term name)
    (option_and_then (field_there lines name) (standing_at region term k))
    (look_line (codes "FIELD" ∷ shown_name term ∷ written_name name ∷ codes "NONE" ∷ []))

-- ---- the fields of dummy sections that a base reaches, in the source's order
-- those of the names that are asked for, or all
abbrev pub is_wanted : Option (List (List ℕ)) → List ℕ → Bool
is_wanted wanted name = option_map_or (list_any (λ it. is_name it name)) wanted true

abbrev pub symbol_field_line : Option (List (List ℕ)) → Storage → List ℕ → LevelFields → List ℕ × Symbol → Lines
symbol_field_line wanted storage term it (name, symbol) =
    if is_wanted wanted name && is_field it.named.control symbol.value
    then option_map_or (field_line storage term name) (typed_field it (name, symbol)) [] else []

abbrev pub fields_lines : Option (List (List ℕ)) → Storage → List ℕ → LevelFields → Lines
fields_lines wanted storage term it = flat_map (symbol_field_line wanted storage term it) it.named.rows

abbrev pub fields_there : Storage → List (List ℕ) → List ℕ → Standing → Lines
fields_there storage lines term standing = option_map_or (fields_lines None storage term) (fields_at lines standing) []

unfoldable pub fields_text : RegionState → List (List ℕ) → List ℕ → Option ℕ → Lines
fields_text region lines term k =
    or_none (codes "FIELDS " ++ shown_name term)
    (option_map_or (fields_there region.shared.storage lines term) (standing_at region term k) [])
