-- The resolved lines of a source, in address order (GC33-4010, "DC -- Define Constant", "DS -- Define Storage",
-- "Literal Pool"; that they are lines is own).
use Rattle.std.specs.Prelude.{ℕ, ◌-◌, Bool, true, false, ◌==◌, if◌then◌else◌, Option, option_and_then, unwrap_or, Result, Ok, Err, List, [], ◌∷◌, ◌++◌, length, slice_get}
use Rattle.std.specs.List.{repeat}
use Rattle.std.specs.Option.{option_map_or}
use Rattle.std.specs.Result.{result_ok}
use Rattle.cx_code.specs.declared.disassembly.Line.{Line}
use Rattle.cx_code.specs.declared.disassembly.LineContent.{LineContent}
use Rattle.cx_code.specs.declared.disassembly.LineContent.TheVariants.{Code, Data, Space}
use Rattle.cx_asm_expressions.specs.Items.{Constant, constant_in, size_of}
use Rattle.cx_asm_expressions.specs.Bytes.{CopyOfConstant}
use Rattle.cx_asm_expressions.specs.declared.values.Value.{Value}
use Rattle.cx_asm_expressions.specs.declared.faults.FaultKind.{FaultKind}
use Rattle.cx_asm_pools.specs.Pools.{PlacedLiterals}
use Rattle.cx_asm_pass1.specs.Given.{location_counter}
use Rattle.cx_asm_pass1.specs.PassState.{is_control, role_in}
use Rattle.cx_asm_pass1.specs.declared.roles.Role.{Role}
use Rattle.cx_asm_pass1.specs.declared.roles.Role.TheVariants.{Instruction as Machine, Storage, Pool}
use Rattle.cx_asm_operations.specs.declared.operations.Operation.{Operation}
use Rattle.cx_asm_operands.specs.Bases.{Bases}
use Rattle.cx_asm_operands.specs.Forms.{instruction_or_fault}
use Rattle.cx_asm_image.specs.Relocated.{words_at}
use Rattle.cx_asm_pass2.specs.Statements.{PlacedStatement, operation_of, placed_items}
use Rattle.cx_asm_pass2.specs.Whole.{Whole, counter_of, instruction_context, item_made, pool_of}
use Rattle.cx_asm_pass2.specs.SecondFaults.{bases_after}

abbrev pub line : ℕ → LineContent → Line
line at what = record { at = at; what = what }

-- What is in the control section: its resolved lines, and the offsets of its relocated words.
pub record Standing : Type 0 where
  pub lines : List Line
  pub relocs : List ℕ

abbrev pub standing : List Line → List ℕ → Standing
standing lines relocs = record { lines = lines; relocs = relocs }

abbrev pub empty_section : Standing
empty_section = standing [] []

abbrev pub join_sections : Standing → Standing → Standing
join_sections one other = standing (one.lines ++ other.lines) (one.relocs ++ other.relocs)

-- ---- constants
-- bytes are a line where there are any, and so is a space
abbrev pub data_line : ℕ → List ℕ → List Line
data_line at [] = []
data_line at (byte ∷ bytes) = line at (Data (byte ∷ bytes)) ∷ []

abbrev pub space_line : ℕ → ℕ → List Line
space_line at size = if size == 0 then [] else line at (Space size) ∷ []

-- Each copy of an address that is relocated is a relocated word.
abbrev pub relocated_offsets : ℕ → ℕ → Bool → List ℕ
relocated_offsets at count is_relocated = if is_relocated then words_at at count else []

-- a constant, by what one copy of it is; at fault it is nothing
abbrev pub constant_standing : ℕ → Result Constant FaultKind → Result CopyOfConstant FaultKind → Standing
constant_standing at (Ok item) (Ok made) =
    standing (data_line at (repeat item.duplication made.bytes))
    (relocated_offsets at item.duplication made.is_relocated)
constant_standing at item made = empty_section

-- an item of a DC, or a literal, at an offset
abbrev pub data_standing : Whole → Option Value → List ℕ → ℕ → Standing
data_standing whole counter text at = constant_standing at (constant_in false text) (item_made whole false counter text)

abbrev pub space_standing : ℕ → Result Constant FaultKind → Standing
space_standing at (Ok item) = standing (space_line at (size_of item)) []
space_standing at (Err fault) = empty_section

-- an item of a DS or DC
abbrev pub item_standing : Whole → Bool → PlacedStatement → List ℕ × ℕ → Standing
item_standing whole true s item = space_standing item.1 (constant_in true item.0)
item_standing whole false s item = data_standing whole (location_counter s.place.section item.1 1) item.0 item.1

-- items, one after the other
abbrev pub items_standing : Whole → Bool → PlacedStatement → List (List ℕ × ℕ) → Standing
items_standing whole is_ds s [] = empty_section
items_standing whole is_ds s (item ∷ items) =
    join_sections (item_standing whole is_ds s item) (items_standing whole is_ds s items)

-- ---- literals
-- In a literal the location counter is at the statement that uses it first.
abbrev pub counter_at : List PlacedStatement → ℕ → Option Value
counter_at statements user = option_and_then counter_of (slice_get statements user)

abbrev pub pool_standing : Whole → List PlacedStatement → PlacedLiterals → Standing
pool_standing whole statements [] = empty_section
pool_standing whole statements (e ∷ pool) =
    join_sections (data_standing whole (counter_at statements e.1.user) e.0 e.1.offset)
    (pool_standing whole statements pool)

-- ---- statements
abbrev pub instruction_standing : Whole → Bases → PlacedStatement → Operation → Standing
instruction_standing whole bases s operation =
    let made = result_ok (instruction_or_fault operation (instruction_context whole bases s) s.stmt.operand) in
    standing (option_map_or (λ instruction. line s.place.offset (Code instruction) ∷ []) made []) []

abbrev pub role_standing : Whole → List PlacedStatement → Bases → PlacedStatement → Role → Standing
role_standing whole statements bases s (Machine size) =
    option_map_or (instruction_standing whole bases s) (operation_of s) empty_section
role_standing whole statements bases s (Storage is_ds) = items_standing whole is_ds s (placed_items s)
role_standing whole statements bases s Pool = pool_standing whole statements (pool_of whole s)
role_standing whole statements bases s role = empty_section

-- what a statement makes, where these bases are in use: nothing outside the control section
unfoldable pub statement_standing : Whole → List PlacedStatement → Bases → PlacedStatement → Standing
statement_standing whole statements bases s =
    if is_control s.place.section whole.control then role_standing whole statements bases s (role_in s.stmt)
    else empty_section

-- ---- the section
-- the literals that no LTORG has placed are at its end
abbrev pub last_pool : Whole → PlacedLiterals
last_pool whole = unwrap_or (slice_get whole.pools (length whole.pools - 1)) []

-- what statements make from one on, and the last pool after them
abbrev pub standing_from : Whole → List PlacedStatement → Bases → List PlacedStatement → Standing
standing_from whole statements bases [] = pool_standing whole statements (last_pool whole)
standing_from whole statements bases (s ∷ rest) =
    join_sections (statement_standing whole statements bases s)
    (standing_from whole statements (bases_after whole bases s) rest)
