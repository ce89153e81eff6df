-- What private functions say of one statement and of one literal.
use Rattle.std.specs.Prelude.{◌≡◌, ℕ, List, Option, option_and_then}
use Rattle.std.specs.Option.{option_map_or}
use Rattle.std.specs.Result.{result_err}
use Rattle.cx_asm_expressions.specs.Faults.{lower}
use Rattle.cx_asm_expressions.specs.declared.faults.FaultKind.{FaultKind}
use Rattle.cx_asm_operands.specs.Bases.{Bases}
use Rattle.cx_asm_operands.specs.Directives.{bases_in}
use Rattle.cx_asm_operations.specs.declared.operations.Operation.{Operation}
use Rattle.cx_asm_pass2.specs.SecondFaults.{operand_fault}
use Rattle.cx_asm_pass2.specs.Statements.{PlacedStatement}
use Rattle.cx_asm_pass2.specs.Whole.{Whole, directive_context}
use Rattle.cx_asm_pools.specs.declared.closed.Literal.{Literal}
use Rattle.cx_asm.specs.Resolving.{Standing, counter_at, data_standing, empty_section}

-- the fault of a statement except that of a USING or a DROP, which is asked separately
abbrev pub WithUsing : Whole → Bases → ℕ → PlacedStatement → Option Operation → Option FaultKind → Type 0
WithUsing whole bases number s operation fault =
    lower fault
    (option_and_then (λ o. result_err (bases_in o (directive_context whole bases s) s.stmt.operand)) operation)
    ≡ operand_fault whole bases number s operation

-- what a literal makes, if there is one
abbrev pub literal_standing : Whole → List PlacedStatement → Option (List ℕ × Literal) → Standing
literal_standing whole statements literal =
    option_map_or (λ e. data_standing whole (counter_at statements e.1.user) e.0 e.1.offset) literal empty_section
