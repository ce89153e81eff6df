-- What is wrong with statements whose places are known: their operands, and the values of their constants (GC33-4010;
-- that the lowest fault of each faulty line is reported is own).
use Rattle.std.specs.Prelude.{ℕ, length, Bool, true, false, ◌==◌, if◌then◌else◌, Option, Some, None, option_and_then, unwrap_or, List, [], ◌∷◌, map}
use Rattle.std.specs.Option.{option_map_or}
use Rattle.std.specs.Map.{lookup}
use Rattle.std.specs.Result.{result_ok, result_err}
use Rattle.std.specs.Str.{bytes_eq}
use Rattle.cx_asm_expressions.specs.Faults.{lower, lowest}
use Rattle.cx_asm_expressions.specs.declared.faults.FaultKind.{FaultKind}
use Rattle.cx_asm_pools.specs.Pools.{literal_text}
use Rattle.cx_asm_pools.specs.declared.closed.Literal.{Literal}
use Rattle.cx_asm_operations.specs.declared.operations.Operation.{Operation}
use Rattle.cx_asm_operations.specs.declared.operations.Operation.TheVariants as operation
use Rattle.cx_asm_operations.specs.declared.operations.Directive.TheVariants as directive
use Rattle.cx_asm_operands.specs.Bases.{Bases, none_in_use}
use Rattle.cx_asm_operands.specs.Directives.{bases_in, copy_fault, entry_in}
use Rattle.cx_asm_operands.specs.Forms.{instruction_or_fault}
use Rattle.cx_asm_pass1.specs.Given.{location_counter}
use Rattle.cx_asm_pass1.specs.AllFaults.{with_fault}
use Rattle.cx_asm_pass1.specs.PassState.{parts_in}
use Rattle.cx_asm_pass1.specs.declared.place.LineFault.{LineFault}
use Rattle.cx_asm_pass2.specs.Statements.{PlacedStatement, operation_of, placed_items}
use Rattle.cx_asm_pass2.specs.Whole.{Whole, counter_of, directive_context, instruction_context, item_made, pool_of}

-- ---- constants
-- A literal's value is judged at the statement that uses it first in its pool; each statement has its number, from 0.
abbrev pub used_fault : Whole → ℕ → PlacedStatement → List ℕ → Literal → Option FaultKind
used_fault whole number s text literal =
    if literal.user == number then result_err (item_made whole false (counter_of s) text) else None

abbrev pub part_fault : Whole → ℕ → PlacedStatement → List ℕ → Option FaultKind
part_fault whole number s part =
    let pool = pool_of whole s in
    option_and_then (λ text. option_and_then (used_fault whole number s text) (lookup (bytes_eq text) pool))
    (literal_text part)

abbrev pub literals_fault : Whole → ℕ → PlacedStatement → Option FaultKind
literals_fault whole number s = lowest (map (part_fault whole number s) (parts_in s.stmt))

-- the items of a DS or DC, with their offsets
abbrev pub item_fault : Whole → Bool → PlacedStatement → List ℕ × ℕ → Option FaultKind
item_fault whole is_ds s item = result_err (item_made whole is_ds (location_counter s.place.section item.1 1) item.0)

abbrev pub items_fault : Whole → Bool → PlacedStatement → Option FaultKind
items_fault whole is_ds s = lowest (map (item_fault whole is_ds s) (placed_items s))

-- ---- statements, where these bases are in use
-- The lowest fault of a statement with this operation: of a directive's operand, and of what an instruction's operands
-- make and the values of the literals that it uses first.
abbrev pub operand_fault : Whole → Bases → ℕ → PlacedStatement → Option Operation → Option FaultKind
operand_fault whole bases number s None = None
operand_fault whole bases number s (Some (operation.Directive directive.Dc)) = items_fault whole false s
operand_fault whole bases number s (Some (operation.Directive directive.Ds)) = items_fault whole true s
operand_fault whole bases number s (Some (operation.Directive directive.Copy)) = copy_fault s.stmt.operand
operand_fault whole bases number s (Some (operation.Directive directive.End)) =
    result_err (entry_in whole.control (directive_context whole none_in_use s) s.stmt.operand)
operand_fault whole bases number s (Some (operation.Directive d)) =
    result_err (bases_in (operation.Directive d) (directive_context whole bases s) s.stmt.operand)
operand_fault whole bases number s (Some o) =
    lower (result_err (instruction_or_fault o (instruction_context whole bases s) s.stmt.operand))
    (literals_fault whole number s)

unfoldable pub second_fault : Whole → Bases → ℕ → PlacedStatement → Option FaultKind
second_fault whole bases number s = operand_fault whole bases number s (operation_of s)

-- the bases in use after a statement: a USING or a DROP at fault changes nothing
unfoldable pub bases_after : Whole → Bases → PlacedStatement → Bases
bases_after whole bases s =
    let c = directive_context whole bases s in
    option_map_or (λ o. unwrap_or (result_ok (bases_in o c s.stmt.operand)) bases) (operation_of s) bases

-- the bases in use after statements, the latest first
abbrev pub bases_after_all : Whole → List PlacedStatement → Bases
bases_after_all whole [] = none_in_use
bases_after_all whole (s ∷ before) = bases_after whole (bases_after_all whole before) s

-- the faults of all lines, by statements, the latest first
abbrev pub second_faults_after : Whole → List PlacedStatement → List LineFault
second_faults_after whole [] = []
second_faults_after whole (s ∷ before) =
    with_fault s.line (second_fault whole (bases_after_all whole before) (length before) s)
    (second_faults_after whole before)
