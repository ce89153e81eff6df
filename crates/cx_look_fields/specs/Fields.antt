-- The fields of a level's source, where its operands would be at the level's place (GC33-4010, "USING -- Use Base
-- Address Register"; which statement a level is at is own).
use Rattle.std.specs.Prelude.{ℕ, ◌-◌, ◌==◌, not, ◌&&◌, Bool, false, if◌then◌else◌, Option, Some, None, is_some, option_and_then, option_map, List, [], ◌∷◌, length, slice_get, slice_index}
use Rattle.std.specs.Option.{option_map_or}
use Rattle.std.specs.Result.{result_ok}
use Rattle.cx_storage.specs.Address.{address_in}
use Rattle.cx_exec.specs.Machine.{effective}
use Rattle.cx_load.specs.declared.program.Loaded.{Loaded}
use Rattle.cx_program.specs.Levels.{all_levels}
use Rattle.cx_program.specs.declared.level.Level.{Level}
use Rattle.cx_region_state.specs.State.{TaskState}
use Rattle.cx_ebcdic.specs.Names.{is_name}
use Rattle.cx_source.specs.declared.source.Source.{Source}
use Rattle.cx_asm_expressions.specs.declared.values.Value.{Value}
use Rattle.cx_asm_operands.specs.Addresses.{implied_address}
use Rattle.cx_asm_operands.specs.Bases.{Bases, none_in_use}
use Rattle.cx_asm_pass1.specs.PassState.{is_control}
use Rattle.cx_asm_pass2.specs.SecondFaults.{bases_after}
use Rattle.cx_asm_pass2.specs.Statements.{PlacedStatement, statements_of}
use Rattle.cx_asm_pass2.specs.Whole.{Whole, whole_of}
use Rattle.cx_look_symbols.specs.Lines.{has_offset}
use Rattle.cx_look_symbols.specs.Placed.{placed_in}
use Rattle.cx_look_symbols.specs.Places.{spot_before, spot_of}
use Rattle.cx_look_symbols.specs.Statements.{statement_place_of}
use Rattle.cx_look_symbols.specs.Symbols.{SourceSymbols, symbols_of}
use Rattle.cx_look_fields.specs.Readings.{readings_of}
use Rattle.cx_look_fields.specs.declared.readings.NamedReading.{NamedReading}
use Rattle.cx_look_fields.specs.Levels.{resume_address}
use Rattle.cx_look_fields.specs.declared.fields.Field.{Field}
use Rattle.cx_look_fields.specs.declared.standing.Standing.{Standing}

-- ---- where a level stands: its program, its registers, and a byte of the statement that it is at
-- a level that has called another is at its last command
abbrev pub calling : List (List ℕ × Loaded) → Level → Standing
calling programs level =
    record { program = level.program; regs = level.regs; spot = spot_before programs (resume_address level) }

-- the current one is at the command that is due, or else at its next instruction
abbrev pub current : List (List ℕ × Loaded) → TaskState → Standing
current programs task =
    let back = spot_before programs (address_in (slice_index task.regs 14)) in
    let spot = if task.due then back else spot_of programs task.next in
    record { program = task.levels.current.program; regs = task.regs; spot = spot }

-- the level of a number, 1 being the highest; without one the current level
unfoldable pub standing_in : List (List ℕ × Loaded) → TaskState → Option ℕ → Option Standing
standing_in programs task None = Some (current programs task)
standing_in programs task (Some k) =
    if k == length (all_levels task.levels) then Some (current programs task)
    else option_map (calling programs) (slice_get (all_levels task.levels) (k - 1))

-- the offset in the level's own program
abbrev pub own_offset : Standing → Option ℕ
own_offset standing =
    option_and_then (λ it. if is_name it.program standing.program then Some it.offset else None) standing.spot

-- ---- the bases in use in front of the statement that has the byte at an offset
abbrev pub stands_at : Whole → ℕ → PlacedStatement → Bool
stands_at whole offset s = option_map_or (has_offset offset) (statement_place_of whole.control s) false

unfoldable pub bases_at : Whole → ℕ → Bases → List PlacedStatement → Option Bases
bases_at whole offset bases [] = None
bases_at whole offset bases (s ∷ after) =
    if stands_at whole offset s then Some bases else bases_at whole offset (bases_after whole bases s) after

abbrev pub bases_at_offset : Source → ℕ → Option Bases
bases_at_offset source offset = bases_at (whole_of source) offset none_in_use (statements_of source)

-- ---- a value's address by the base that the assembler chooses for it, and its length
unfoldable pub field_by : List ℕ → Bases → Value → Option Field
field_by regs bases value =
    option_map (λ a. record { address = effective regs 0 a.base a.displacement; length = value.length })
    (result_ok (implied_address bases value))

-- a symbol of a dummy section
abbrev pub is_field : Option (List ℕ) → Value → Bool
is_field control value = is_some value.section && not (is_control value.section control)

-- ---- what the fields of a level are found by: its registers, the bases in use at its statement, the symbols of its
-- source, and how their bytes are read
pub record LevelFields : Type 0 where
  pub regs : List ℕ
  pub bases : Bases
  pub named : SourceSymbols
  pub readings : List NamedReading

-- where it is at the statement that has the byte at an offset of its source
abbrev pub fields_in : List ℕ → ℕ → Source → Option LevelFields
fields_in regs offset source =
    option_map
    (λ bases. record { regs = regs; bases = bases; named = symbols_of source; readings = readings_of source })
    (bases_at_offset source offset)

-- where it stands at a statement of its source
abbrev pub fields_at : List (List ℕ) → Standing → Option LevelFields
fields_at lines standing =
    option_and_then (λ offset. option_and_then (fields_in standing.regs offset) (placed_in lines)) (own_offset standing)
