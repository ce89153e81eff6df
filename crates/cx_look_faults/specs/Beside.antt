-- What is wrong with an instruction beside an address that no base reaches (own).
use Rattle.std.specs.Prelude.{ℕ, Bool, not, if◌then◌else◌, Option, Some, None, filter, option_and_then, option_map, List}
use Rattle.std.specs.List.{enumerate_from, filter_map}
use Rattle.std.specs.Result.{result_err}
use Rattle.cx_asm_expressions.specs.Faults.{lower}
use Rattle.cx_asm_expressions.specs.declared.faults.FaultKind.{FaultKind}
use Rattle.cx_asm_operations.specs.declared.operations.Operation.{Operation}
use Rattle.cx_asm_operations.specs.declared.operations.Operation.TheVariants.{Directive}
use Rattle.cx_asm_operands.specs.Bases.{Bases}
use Rattle.cx_asm_operands.specs.Forms.{instruction_or_fault}
use Rattle.cx_asm_pass1.specs.PassState.{line_fault}
use Rattle.cx_asm_pass1.specs.declared.place.LineFault.{LineFault}
use Rattle.cx_asm_pass2.specs.SecondFaults.{literals_fault}
use Rattle.cx_asm_pass2.specs.Statements.{PlacedStatement, operation_of}
use Rattle.cx_asm_pass2.specs.Whole.{Whole}
use Rattle.cx_asm_build.specs.declared.faults.SourceKind.{SourceKind}
use Rattle.cx_asm_build.specs.declared.faults.SourceKind.TheVariants.{NoAddressability}
use Rattle.cx_look_faults.specs.Judging.{has_fault, is_kind, part_context}
use Rattle.cx_look_faults.specs.Operands.{bases_before, is_alone}
use Rattle.cx_look_faults.specs.Spans.{spans_of, with_zeros}
use Rattle.cx_look_faults.specs.declared.spans.Cut.TheVariants.{Subfields}

-- an operand with 0 in place of each subfield that has a fault alone
abbrev pub operand_without : (List ℕ → Bool) → List ℕ → List ℕ
operand_without has operand =
    let kept = filter (λ part. not (is_alone has Subfields operand part)) (spans_of Subfields operand) in
    with_zeros Subfields kept operand

-- The fault that an instruction has then, its literal counting as addressable, unless that is NoAddressability, and
-- that of the literals that it uses first; the lower of the two.
abbrev pub fault_by : Whole → Bases → ℕ → PlacedStatement → Option Operation → Option FaultKind
fault_by whole bases number s None = None
fault_by whole bases number s (Some (Directive d)) = None
fault_by whole bases number s (Some o) =
    let operand = operand_without (has_fault whole bases s NoAddressability) s.stmt.operand in
    let made = result_err (instruction_or_fault o (part_context whole bases s) operand) in
    lower (if is_kind made NoAddressability then None else made) (literals_fault whole number s)

-- those of the statements on lines with NoAddressability, by what the fault of a line is
abbrev pub beside_on : Whole → Bases → ℕ → PlacedStatement → SourceKind → Option LineFault
beside_on whole bases number s NoAddressability =
    option_map (line_fault s.line) (fault_by whole bases number s (operation_of s))
beside_on whole bases number s kind = None

abbrev pub beside_at : Whole → (ℕ → Option SourceKind) → List PlacedStatement → ℕ × PlacedStatement → Option LineFault
beside_at whole kind_of statements entry =
    option_and_then (beside_on whole (bases_before whole statements entry.0) entry.0 entry.1) (kind_of entry.1.line)

unfoldable pub faults_beside : Whole → (ℕ → Option SourceKind) → List PlacedStatement → List LineFault
faults_beside whole kind_of statements = filter_map (beside_at whole kind_of statements) (enumerate_from 0 statements)
