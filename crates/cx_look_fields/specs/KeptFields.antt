-- The fields of a working storage that was kept, as FIELDS writes them (own).
use Rattle.std.specs.Prelude.{ℕ, min, nat_le, if◌then◌else◌, Option, Some, None, List, [], codes, drop, length, take}
use Rattle.std.specs.List.{flat_map}
use Rattle.std.specs.Option.{option_map_or}
use Rattle.cx_storage.specs.Address.{address_after}
use Rattle.cx_asm_expressions.specs.Names.{symbol_name}
use Rattle.cx_asm_expressions.specs.declared.values.Value.{Value}
use Rattle.cx_look_lines.specs.Words.{Lines}
use Rattle.cx_look_symbols.specs.Placed.{placed_in}
use Rattle.cx_look_symbols.specs.Symbols.{symbols_of}
use Rattle.cx_look_symbols.specs.Texts.{offset_up_to}
use Rattle.cx_look_symbols.specs.declared.rows.Symbol.{Symbol}
use Rattle.cx_look_fields.specs.Readings.{reading_named, readings_of}
use Rattle.cx_look_fields.specs.declared.readings.NamedReading.{NamedReading}
use Rattle.cx_look_fields.specs.FieldTexts.{field_bytes_word, field_words}
use Rattle.cx_look_fields.specs.declared.fields.Field.{Field}

-- the first bytes, where all of them are there
abbrev pub first_bytes : ℕ → List ℕ → Option (List ℕ)
first_bytes count bytes = if nat_le count (length bytes) then Some (take count bytes) else None

abbrev pub kept_field : ℕ → ℕ → Value → Field
kept_field at offset value = record { address = address_after at offset; length = value.length }

-- a field by its offset in the bytes that were kept, the first of which was at an address
abbrev pub kept_line : List ℕ → List NamedReading → ℕ → List ℕ → List ℕ → Value → ℕ → Lines
kept_line term readings at bytes name value offset =
    field_words term name (kept_field at offset value)
    (field_bytes_word (reading_named readings name) (first_bytes (min 32 value.length) (drop offset bytes)))

-- of a symbol in the dummy section DFHEISTG, where its offset is in the bytes or right after them
abbrev pub kept_row : List ℕ → List NamedReading → ℕ → List ℕ → List ℕ × Symbol → Lines
kept_row term readings at bytes (name, symbol) =
    option_map_or (kept_line term readings at bytes name symbol.value)
    (offset_up_to (length bytes) (symbol_name (codes "DFHEISTG")) symbol.value) []

-- those of a source, in its order
unfoldable pub kept_fields : List ℕ → List (List ℕ) → ℕ → List ℕ → Lines
kept_fields term lines at bytes =
    option_map_or (λ source. flat_map (kept_row term (readings_of source) at bytes) (symbols_of source).rows)
    (placed_in lines) []
