-- The base registers of a source, and the lines in which they are in use (GC33-4010, "USING -- Use Base Address
-- Register", "DROP -- Drop Base Register" and "Cross-Reference").
use Rattle.std.specs.Prelude.{ℕ, ◌-◌, Bool, false, ◌||◌, ◌==◌, if◌then◌else◌, Option, Some, List, [], ◌∷◌, drop, length}
use Rattle.std.specs.List.{filter_map, list_any}
use Rattle.std.specs.Result.{result_ok}
use Rattle.cx_asm_operations.specs.declared.operations.Operation.{Operation}
use Rattle.cx_asm_operations.specs.declared.operations.Operation.TheVariants as operation
use Rattle.cx_asm_operations.specs.declared.operations.Directive.TheVariants as directive
use Rattle.cx_asm_operands.specs.Bases.{none_in_use}
use Rattle.cx_asm_operands.specs.Context.{register_in}
use Rattle.cx_asm_pass1.specs.PassState.{parts_in}
use Rattle.cx_asm_pass2.specs.Statements.{PlacedStatement, operation_of}
use Rattle.cx_asm_pass2.specs.Whole.{Whole, directive_context}

-- the registers that a statement's operands name
abbrev pub registers_named : Whole → PlacedStatement → List (List ℕ) → List ℕ
registers_named whole s parts =
    filter_map (λ part. result_ok (register_in (directive_context whole none_in_use s) part)) parts

-- the registers of a statement with this operation: a USING's come after the place that they hold
abbrev pub base_registers : Whole → PlacedStatement → Option Operation → List ℕ
base_registers whole s (Some (operation.Directive directive.Using)) = registers_named whole s (drop 1 (parts_in s.stmt))
base_registers whole s operation = []

-- A statement with this operation ends the use of a register: a USING that names it, and a DROP that names it, or none.
abbrev pub ends_use : Whole → ℕ → PlacedStatement → Option Operation → Bool
ends_use whole register s (Some (operation.Directive directive.Using)) =
    list_any (λ r. r == register) (base_registers whole s (Some (operation.Directive directive.Using)))
ends_use whole register s (Some (operation.Directive directive.Drop)) =
    (length s.stmt.operand == 0) || list_any (λ r. r == register) (registers_named whole s (parts_in s.stmt))
ends_use whole register s operation = false

-- The last line of a register's use, by the statements after the one that begins it: the line before the one that ends
-- it, and else the source's last.
abbrev pub use_end : Whole → ℕ → ℕ → List PlacedStatement → ℕ
use_end whole last register [] = last
use_end whole last register (s ∷ after) =
    if ends_use whole register s (operation_of s) then s.line - 1 else use_end whole last register after
