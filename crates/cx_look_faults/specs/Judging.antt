-- What is wrong with an operand by itself (own).
use Rattle.std.specs.Prelude.{ℕ, Bool, true, false, pos, Option, Some, None, option_and_then, List}
use Rattle.std.specs.Option.{option_map_or}
use Rattle.std.specs.Result.{result_err}
use Rattle.std.specs.Str.{bytes_eq}
use Rattle.cx_translate.specs.Refusals.{refusal_name, refusal_of}
use Rattle.cx_translate.specs.Words.{words_of}
use Rattle.cx_asm_expressions.specs.Expressions.{value_of}
use Rattle.cx_asm_expressions.specs.Faults.{fault_row, lower}
use Rattle.cx_asm_expressions.specs.Symbols.{absolute}
use Rattle.cx_asm_expressions.specs.declared.faults.FaultKind.{FaultKind}
use Rattle.cx_asm_operations.specs.declared.operations.Operation.{Operation}
use Rattle.cx_asm_operations.specs.declared.operations.Operation.TheVariants.{Directive}
use Rattle.cx_asm_operations.specs.declared.operations.Directive.TheVariants.{Dc, Ds, Equ}
use Rattle.cx_asm_operands.specs.Bases.{Bases}
use Rattle.cx_asm_operands.specs.Context.{Context, context}
use Rattle.cx_asm_operands.specs.Forms.{instruction_or_fault, literal_in}
use Rattle.cx_asm_pools.specs.Pools.{literal_text}
use Rattle.cx_asm_pass2.specs.SecondFaults.{operand_fault}
use Rattle.cx_asm_pass2.specs.Statements.{PlacedStatement, operation_of}
use Rattle.cx_asm_pass2.specs.Whole.{Whole, counter_of, item_made}
use Rattle.cx_asm_build.specs.Kinds.{kind_name}
use Rattle.cx_asm_build.specs.declared.faults.SourceKind.{SourceKind}

-- a fault of the assembler is of a kind: both have the kind's name
abbrev pub is_kind : Option FaultKind → SourceKind → Bool
is_kind fault kind = option_map_or (λ found. bytes_eq (fault_row found).1 (kind_name kind)) fault false

-- A literal is judged by its value alone: it counts as addressable.
abbrev pub part_context : Whole → Bases → PlacedStatement → Context
part_context whole bases s = context whole.find (counter_of s) bases (Some (absolute (pos 0)))

-- What is wrong with an operand, if a statement of this operation had it; of a DC or DS it is one item. The value of an
-- EQU is judged by all symbols, and that of a literal whichever statement uses it first.
abbrev pub fault_of_operand : Whole → Bases → PlacedStatement → List ℕ → Option Operation → Option FaultKind
fault_of_operand whole bases s operand None = None
fault_of_operand whole bases s operand (Some (Directive Dc)) = result_err (item_made whole false (counter_of s) operand)
fault_of_operand whole bases s operand (Some (Directive Ds)) = result_err (item_made whole true (counter_of s) operand)
fault_of_operand whole bases s operand (Some (Directive Equ)) = result_err (value_of whole.find (counter_of s) operand)
fault_of_operand whole bases s operand (Some (Directive d)) =
    operand_fault whole bases 0 (record s { stmt = record s.stmt { operand = operand } }) (Some (Directive d))
fault_of_operand whole bases s operand (Some o) =
    let literal = option_and_then literal_text (literal_in operand) in
    lower (result_err (instruction_or_fault o (part_context whole bases s) operand))
    (option_and_then (λ text. result_err (item_made whole false (counter_of s) text)) literal)

-- the statement has a fault of a kind, if this is its operand
unfoldable pub has_fault : Whole → Bases → PlacedStatement → SourceKind → List ℕ → Bool
has_fault whole bases s kind operand = is_kind (fault_of_operand whole bases s operand (operation_of s)) kind

-- an EXEC statement of this operand has a fault of a kind: both have the kind's name
unfoldable pub has_exec_fault : SourceKind → List ℕ → Bool
has_exec_fault kind operand =
    option_map_or (λ fault. bytes_eq (refusal_name fault) (kind_name kind)) (refusal_of 1 (words_of operand)) false
