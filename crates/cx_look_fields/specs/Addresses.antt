-- What is at an address: the names of a source that have the byte, fields by the bases of a level and labels of its
-- program; and WHERE (own).
use Rattle.std.specs.Prelude.{ℕ, ◌-◌, nat_lt, if◌then◌else◌, Option, Some, None, option_and_then, option_map, List, [], ◌∷◌, ◌++◌, codes, length}
use Rattle.std.specs.List.{filter_map, filter, flat_map, range_with_len}
use Rattle.std.specs.Option.{option_map_or}
use Rattle.cx_storage.specs.Address.{distance}
use Rattle.cx_asm_operands.specs.Bases.{Bases}
use Rattle.cx_look_symbols.specs.Symbols.{named_in}
use Rattle.cx_look_symbols.specs.Texts.{offset_up_to}
use Rattle.cx_look_symbols.specs.declared.rows.Symbol.{Symbol}
use Rattle.cx_storage.specs.Storage.{areas_of}
use Rattle.cx_load.specs.declared.program.Loaded.{Loaded}
use Rattle.cx_program.specs.Levels.{all_levels}
use Rattle.cx_region_state.specs.State.{TaskState}
use Rattle.cx_region.specs.State.{RegionState, TerminalState}
use Rattle.cx_base.specs.Digits.{digits}
use Rattle.cx_base.specs.Texts.{shown_name}
use Rattle.cx_look_lines.specs.Words.{look_line, Lines}
use Rattle.cx_look_symbols.specs.Places.{address_word, place_at_address}
use Rattle.cx_look_symbols.specs.Sources.{Sources, led_by, source_lines, statement_at}
use Rattle.cx_look_symbols.specs.declared.places.Place.{Place}
use Rattle.cx_look_symbols.specs.declared.places.Spot.{Spot}
use Rattle.cx_look_storage.specs.Uses.{is_met, met_line}
use Rattle.cx_look_fields.specs.Fields.{LevelFields, field_by, fields_at, is_field, standing_in}
use Rattle.cx_look_fields.specs.declared.fields.Field.{Field}
use Rattle.cx_look_fields.specs.declared.standing.Standing.{Standing}
use Rattle.cx_look_fields.specs.Nearest.{near, nearest, near_word}
use Rattle.cx_look_fields.specs.declared.nearest.Near.{Near}

-- ---- fields, as FIELDS has them
-- how far the byte is from the first of the field, where the field has it
abbrev pub near_in : ℕ → List ℕ → Field → Option Near
near_in address name field =
    if nat_lt (distance field.address address) field.length then Some (near name (distance field.address address))
    else None

abbrev pub near_field : ℕ → List ℕ → Bases → Option (List ℕ) → List ℕ × Symbol → Option Near
near_field address regs bases control (name, symbol) =
    if is_field control symbol.value then option_and_then (near_in address name) (field_by regs bases symbol.value)
    else None

-- the field that begins last of those of a level which have the byte, and of equal ones the first
abbrev pub nearest_by : ℕ → LevelFields → Option Near
nearest_by address it = nearest (filter_map (near_field address it.regs it.bases it.named.control) it.named.rows)

abbrev pub nearest_field : ℕ → List (List ℕ) → Standing → Option Near
nearest_field address lines standing = option_and_then (nearest_by address) (fields_at lines standing)

-- ---- labels
abbrev pub near_label : ℕ → Option (List ℕ) → List ℕ × Symbol → Option Near
near_label offset control (name, symbol) =
    option_map (λ at. near name (offset - at)) (offset_up_to offset control symbol.value)

-- the last at an offset or before it, and of equal ones the first
abbrev pub nearest_label : ℕ → List (List ℕ) → Option Near
nearest_label offset lines =
    option_and_then (λ it. nearest (filter_map (near_label offset it.control) it.rows)) (named_in lines)

-- ---- what WHERE writes of an address
-- the nearest label in a program
abbrev pub spot_line : Sources → Spot → Lines
spot_line sources spot =
    option_map_or (λ near. look_line (codes "LABEL" ∷ near_word near ∷ []))
    (nearest_label spot.offset (source_lines sources spot.program)) []

-- the address and where it is, with the statement that has its byte
abbrev pub place_words : Sources → Place → List ℕ
place_words sources place = address_word place ++ led_by (codes " LINE ") (statement_at sources place.spot)

-- ---- of the levels of tasks: the field that has the byte
abbrev pub level_field_line : List ℕ → ℕ → Near → Lines
level_field_line term k near =
    look_line (codes "FIELD" ∷ shown_name term ∷ codes "LEVEL" ∷ digits 10 2 k ∷ near_word near ∷ [])

abbrev pub standing_line : Sources → ℕ → List ℕ → ℕ → Standing → Lines
standing_line sources address term k standing =
    option_map_or (level_field_line term k) (nearest_field address (source_lines sources standing.program) standing) []

abbrev pub level_lines_at : List (List ℕ × Loaded) → Sources → ℕ → List ℕ → TaskState → ℕ → Lines
level_lines_at programs sources address term task k =
    option_map_or (standing_line sources address term k) (standing_in programs task (Some k)) []

-- those of a terminal's task, number 1 being the highest
abbrev pub terminal_field_lines : List (List ℕ × Loaded) → Sources → ℕ → List ℕ × TerminalState → Lines
terminal_field_lines programs sources address (term, terminal) =
    option_map_or
    (λ task.
    let numbers = range_with_len 1 (length (all_levels task.levels)) in
    flat_map (level_lines_at programs sources address term task) numbers)
    terminal.task []

-- ---- all: the place, the area that has the byte, and the fields that have it
unfoldable pub where_text : Sources → RegionState → ℕ → Lines
where_text sources region address =
    let place = place_at_address region.shared.programs address in
    look_line (codes "WHERE" ∷ place_words sources place ∷ []) ++ option_map_or (spot_line sources) place.spot []
    ++ flat_map (met_line region address) (filter (is_met address 1) (areas_of region.shared.storage))
    ++ flat_map (terminal_field_lines region.shared.programs sources address) region.terminals
