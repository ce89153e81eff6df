-- The operands of instructions, by format (GC33-4010, "Machine Instructions" and "Extended Mnemonic Codes"; GA22-7000,
-- "Instruction Formats").
use Rattle.std.specs.Option.{option_map_or, option_zip}
use Rattle.std.specs.Prelude.{ℕ, true, false, if◌then◌else◌, Option, Some, None, option_and_then, Result, Err, List, [], ◌∷◌, ◌-◌, length, slice_get}
use Rattle.cx_source.specs.Marks.{parts}
use Rattle.cx_source.specs.declared.marks.Delimiter.TheVariants.{TopComma}
use Rattle.cx_code.specs.Table.{format_of, is_shift}
use Rattle.cx_code.specs.Spelling.{Instruction, instruction}
use Rattle.cx_code.specs.declared.table.Op.{Op}
use Rattle.cx_code.specs.declared.table.Format.TheVariants as format
use Rattle.cx_code.specs.declared.instruction.Fields.{Fields}
use Rattle.cx_code.specs.declared.instruction.Fields.TheVariants.{Rr, Rx, Rs, Si, Ss, Ss2}
use Rattle.cx_asm_expressions.specs.declared.faults.FaultKind.{FaultKind}
use Rattle.cx_asm_expressions.specs.declared.faults.FaultKind.TheVariants.{UnknownOperation, BadOperand}
use Rattle.cx_asm_operations.specs.Operations.{base_row, number}
use Rattle.cx_asm_operations.specs.declared.operations.Operation.{Operation}
use Rattle.cx_asm_operations.specs.declared.operations.Operation.TheVariants as operation
use Rattle.cx_asm_operands.specs.Checking.{both_or_lower_fault, with_made}
use Rattle.cx_asm_operands.specs.Context.{Context, operand_number, register_in}
use Rattle.cx_asm_operands.specs.Storage.{is_literal, plain_in, indexed_in, counted_in}
use Rattle.cx_asm_operands.specs.declared.forms.Form.{Form}
use Rattle.cx_asm_operands.specs.declared.forms.Form.TheVariants as form

-- The table: how many operands an instruction of each form has, and what each may be.
--   RR            R1,R2
--   RX            R1,S2  R1,S2(X2)  R1,D2(X2,B2)  R1,D2(,B2)  R1,literal
--   RS            R1,R3,S2  R1,R3,D2(B2)
--   RS of shifts  R1,S2  R1,D2(B2)
--   SI            S1,I2  D1(B1),I2
--   SS            S1,S2  S1(L),S2  D1(L,B1),D2(B2), the second also a literal
--   SS2           S1,S2  S1(L1),S2(L2)  D1(L1,B1),D2(L2,B2), the second also a literal
-- A branch whose name says its mask has no first operand. A different number of operands is BadOperand alone.
unfoldable pub fields_in : Form → Context → List (List ℕ) → Result Fields FaultKind
fields_in (form.Format format.Rr) c (r1 ∷ r2 ∷ []) =
    with_made (λ v. Rr v.0 v.1) (both_or_lower_fault (register_in c r1) (register_in c r2))
fields_in (form.Format format.Rx) c (r1 ∷ s2 ∷ []) =
    with_made (λ v. Rx v.0 v.1.0 v.1.1.base v.1.1.displacement)
    (both_or_lower_fault (register_in c r1) (indexed_in c s2))
fields_in (form.Format format.Rs) c (r1 ∷ r3 ∷ s2 ∷ []) =
    with_made (λ v. Rs v.0 v.1.0 v.1.1.base v.1.1.displacement)
    (both_or_lower_fault (register_in c r1) (both_or_lower_fault (register_in c r3) (plain_in false c s2)))
fields_in form.Shift c (r1 ∷ s2 ∷ []) =
    with_made (λ v. Rs v.0 0 v.1.base v.1.displacement) (both_or_lower_fault (register_in c r1) (plain_in false c s2))
fields_in (form.Format format.Si) c (s1 ∷ i2 ∷ []) =
    with_made (λ v. Si v.1 v.0.base v.0.displacement)
    (both_or_lower_fault (plain_in false c s1) (operand_number 255 c i2))
fields_in (form.Format format.Ss) c (s1 ∷ s2 ∷ []) =
    with_made (λ v. Ss v.0.0 v.0.1.base v.0.1.displacement v.1.base v.1.displacement)
    (both_or_lower_fault (counted_in 256 false c s1) (plain_in true c s2))
fields_in (form.Format format.Ss2) c (s1 ∷ s2 ∷ []) =
    with_made (λ v. Ss2 v.0.0 v.1.0 v.0.1.base v.0.1.displacement v.1.1.base v.1.1.displacement)
    (both_or_lower_fault (counted_in 16 false c s1) (counted_in 16 true c s2))
fields_in (form.Branch mask) c (s2 ∷ []) =
    with_made (λ v. Rx mask v.0 v.1.base v.1.displacement) (indexed_in c s2)
fields_in (form.RegisterBranch mask) c (r2 ∷ []) =
    with_made (λ v. Rr mask v) (register_in c r2)
fields_in form c operands = Err BadOperand

-- ---- the form of an operation
abbrev pub form_of_op : Op → Form
form_of_op op = if is_shift op then form.Shift else form.Format (format_of op)

abbrev pub form_of : Operation → Option Form
form_of (operation.Machine op) = Some (form_of_op op)
form_of (operation.Branch mask) = Some (form.Branch (number mask))
form_of (operation.RegisterBranch mask) = Some (form.RegisterBranch (number mask))
form_of (operation.Directive directive) = None

-- ---- a statement's instruction
abbrev pub operands_of : List ℕ → List (List ℕ)
operands_of operand = parts TopComma operand

-- the literal that a statement has, if its last operand is one
unfoldable pub literal_in : List ℕ → Option (List ℕ)
literal_in operand =
    let operands = operands_of operand in
    option_and_then (λ text. if is_literal text then Some text else None) (slice_get operands (length operands - 1))

-- The instruction that an operation and its operand make, of the operation's row, or the lowest fault of its operands.
-- An operation that makes none is UnknownOperation.
unfoldable pub instruction_or_fault : Operation → Context → List ℕ → Result Instruction FaultKind
instruction_or_fault operation c operand =
    option_map_or (λ v. with_made (instruction v.0) (fields_in v.1 c (operands_of operand)))
    (option_zip (base_row operation) (form_of operation)) (Err UnknownOperation)
