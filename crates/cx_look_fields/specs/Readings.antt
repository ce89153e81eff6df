-- How the bytes of a source's fields are read as numbers, by the types of their constants (GC33-4010, "DC -- Define
-- Constant").
use Rattle.std.specs.Prelude.{ℕ, Bool, ◌==◌, if◌then◌else◌, Option, Some, None, option_and_then, option_map, List, slice_get, unwrap_or}
use Rattle.std.specs.List.{filter_map, find}
use Rattle.std.specs.Result.{result_ok}
use Rattle.cx_source.specs.declared.source.Source.{Source}
use Rattle.cx_source.specs.declared.source.Stmt.{Stmt}
use Rattle.cx_asm_expressions.specs.Items.{Constant, constant_in, length_of}
use Rattle.cx_asm_expressions.specs.Kinds.{row_of_kind}
use Rattle.cx_asm_expressions.specs.Names.{is_same}
use Rattle.cx_asm_expressions.specs.declared.kinds.ConstantKind.{ConstantKind}
use Rattle.cx_asm_expressions.specs.declared.kinds.ConstantKind.TheVariants.{Character, Fullword, Halfword}
use Rattle.cx_asm_expressions.specs.declared.kinds.ConstantKind.TheVariants as kind
use Rattle.cx_asm_pass1.specs.PassState.{name_in, parts_in, role_in}
use Rattle.cx_asm_pass1.specs.declared.roles.Role.{Role}
use Rattle.cx_asm_pass1.specs.declared.roles.Role.TheVariants.{Storage}
use Rattle.cx_look_fields.specs.declared.readings.NamedReading.{NamedReading}
use Rattle.cx_look_fields.specs.declared.readings.Reading.{Reading}
use Rattle.cx_look_fields.specs.declared.readings.Reading.TheVariants.{Binary, Packed, Zoned}

-- F and H are binary, where there is one number; P is packed; characters may be a zoned number
abbrev pub reading_by : ConstantKind → Bool → Option Reading
reading_by Fullword is_one = if is_one then Some Binary else None
reading_by Halfword is_one = if is_one then Some Binary else None
reading_by kind.Packed is_one = Some Packed
reading_by Character is_one = Some Zoned
reading_by _ is_one = None

abbrev pub reading_of_item : Constant → Option Reading
reading_of_item item =
    reading_by item.kind (length_of item == unwrap_or item.modifier (row_of_kind item.kind).alignment)

-- that of the first item of a DS or a DC
abbrev pub reading_first : Role → Option (List ℕ) → Option Reading
reading_first (Storage is_ds) part =
    option_and_then (λ text. option_and_then reading_of_item (result_ok (constant_in is_ds text))) part
reading_first _ part = None

-- that of the name which a statement has
abbrev pub named : List ℕ → Reading → NamedReading
named name reading = record { name = name; reading = reading }

abbrev pub reading_in : Stmt → Option NamedReading
reading_in stmt =
    option_and_then (λ name. option_map (named name) (reading_first (role_in stmt) (slice_get (parts_in stmt) 0)))
    (name_in stmt)

-- those of a source
abbrev pub readings_of : Source → List NamedReading
readings_of source = filter_map (λ item. option_and_then reading_in item.stmt) source.items

abbrev pub reading_named : List NamedReading → List ℕ → Option Reading
reading_named readings name = option_map (λ it. it.reading) (find (λ it. is_same it.name name) readings)
