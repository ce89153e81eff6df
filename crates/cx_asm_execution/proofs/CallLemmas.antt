-- The statement that marks the last word of the argument list.
use Rattle.std.specs.Prelude.{Result, codes, decimal}
use Rattle.std.proofs.Common.{◌≡◌, ℕ, ◌+◌, ◌*◌, false, Some, Ok, List, [], ◌∷◌, ◌++◌, refl, sym, ◌∙◌, ap}
use Rattle.cx_code.specs.declared.table.Op.TheVariants as op
use Rattle.cx_code.specs.declared.instruction.Fields.{Fields}
use Rattle.cx_code.specs.declared.instruction.Fields.TheVariants.{Si}
use Rattle.cx_code.specs.Spelling.{Instruction, instruction}
use Rattle.cx_code.specs.Table.{is_shift, length_of, ops, operation_row}
use Rattle.cx_source.specs.Lines.{is_letter, is_symbol_name}
use Rattle.cx_source.specs.Marks.{scan_depth_after, is_length_attribute, parts_from, within_after}
use Rattle.cx_source.specs.declared.marks.Delimiter.TheVariants.{TopComma}
use Rattle.cx_source.specs.declared.source.Item.{Item}
use Rattle.cx_asm_expressions.specs.declared.faults.FaultKind.{FaultKind}
use Rattle.cx_asm_expressions.specs.Digits.{digit}
use Rattle.cx_asm_expressions.specs.Expressions.{sum_of_values, value_of}
use Rattle.cx_asm_expressions.specs.Terms.{read_term, terms_of}
use Rattle.cx_asm_expressions.specs.Weights.{relocation}
use Rattle.cx_asm_expressions.specs.TermValues.{term_value}
use Rattle.cx_translate.specs.Expansion.{made_item}
use Rattle.cx_asm_operations.specs.Operations.{operation_named, operations}
use Rattle.cx_asm_operations.specs.declared.operations.Operation.TheVariants as operation
use Rattle.cx_asm_operands.specs.Bases.{Bases}
use Rattle.cx_asm_operands.specs.Context.{Context, operand_number}
use Rattle.cx_asm_operands.specs.Forms.{fields_in, form_of_op, operands_of, instruction_or_fault}
use Rattle.cx_asm_operands.specs.Checking.{both_or_lower_fault}
use Rattle.cx_asm_operands.specs.Storage.{plain_in}
use Rattle.cx_asm_operands.specs.declared.addresses.Address.{Address}
use Rattle.cx_code.specs.declared.table.Format.TheVariants as format
use Rattle.cx_asm_operands.specs.declared.forms.Form.TheVariants as form
use Rattle.cx_asm_pass2.specs.Whole.{Whole}
use Rattle.cx_asm_execution.proofs.Calls.{HasByte, MarkIsResolved, mark_of}
use Rattle.cx_asm_execution.proofs.Resolved.{AreResolved, IsResolved}
use Rattle.cx_asm_execution.proofs.Stores.{BranchIsResolved, context_of, word_of_list}
use Rattle.cx_asm_execution.proofs.ArgumentLemmas.{both_ok, made_ok}
use Rattle.cx_asm_laws.specs.Facts.Plain.{ArePlain, decimal_plain, plain_cut}

-- ---- the two operands
byte_is : (c : Context) → operand_number 255 c (codes "X'80'") ≡ Ok 128
unfolding operand_number value_of terms_of within_after is_length_attribute read_term is_symbol_name is_letter digit term_value sum_of_values relocation
byte_is c = refl

after_comma : (before last : ℕ) (part : List ℕ) → parts_from TopComma (record { within = false; depth = 0; before = before; last = last }) part (codes ",X'80'") ≡ part ∷ codes "X'80'" ∷ []
unfolding within_after scan_depth_after is_length_attribute
after_comma before last part = refl

word_cut : (text : List ℕ) → ArePlain text → operands_of (codes "DFHEIPL+" ++ text ++ codes ",X'80'") ≡ (codes "DFHEIPL+" ++ text) ∷ codes "X'80'" ∷ []
unfolding within_after scan_depth_after
word_cut text plain =
    let cut = plain_cut (record { within = false; depth = 0; before = 76; last = 43 }) (codes "DFHEIPL+") text (codes ",X'80'") plain in
    cut.is ∙ after_comma cut.before cut.last (codes "DFHEIPL+" ++ text)

-- ---- the instruction
oi_named : operation_named (codes "OI") ≡ Some (operation.Machine op.Oi)
unfolding operation_named operations ops operation_row
oi_named = refl

oi_immediate : form_of_op op.Oi ≡ (form.Format format.Si)
unfolding operation_row is_shift
oi_immediate = refl

record HasSi (c : Context) (text : List ℕ) (fields : Fields) : Type 0 where
  address : Address
  operand : plain_in false c text ≡ Ok address
  is : fields ≡ Si 128 address.base address.displacement

fields_so : (c : Context) (text : List ℕ) (fields : Fields) → fields_in (form.Format format.Si) c (text ∷ codes "X'80'" ∷ []) ≡ Ok fields → HasSi c text fields
unfolding fields_in
fields_so c text fields e =
    let made = made_ok (λ (v : Address × ℕ). Si v.1 (v.0).base (v.0).displacement) (both_or_lower_fault (plain_in false c text) (operand_number 255 c (codes "X'80'"))) fields e in
    let parts = both_ok (plain_in false c text) (operand_number 255 c (codes "X'80'")) (made.0).0 (made.0).1 made.1 in
    let same : (made.0).1 ≡ 128 = (let found : ◌≡◌ {A = Result ℕ FaultKind} (Ok 128) (Ok (made.0).1) = sym (byte_is c) ∙ parts.1 in cc) in
    record { address = (made.0).0; operand = parts.0; is = sym made.2 ∙ ap (λ k. Si k ((made.0).0).base ((made.0).0).displacement) same }

marked : (c : Context) (entire text : List ℕ) (i : Instruction) → operands_of entire ≡ text ∷ codes "X'80'" ∷ [] → instruction_or_fault (operation.Machine op.Oi) c entire ≡ Ok i → HasByte op.Oi 128 c text i
unfolding instruction_or_fault
marked c entire text i cut e =
    let made = made_ok (instruction op.Oi) (fields_in (form_of_op op.Oi) c (operands_of entire)) i e in
    let fields : fields_in (form.Format format.Si) c (text ∷ codes "X'80'" ∷ []) ≡ Ok made.0 =
    sym (ap (λ k. fields_in k c (text ∷ codes "X'80'" ∷ [])) oi_immediate) ∙ sym (ap (fields_in (form_of_op op.Oi) c) cut) ∙ made.1 in
    let si = fields_so c text made.0 fields in
    record { address = si.address; operand = si.operand; is = sym made.2 ∙ ap (instruction op.Oi) si.is }

-- ---- the statement
mark_so : (whole : Whole) (bases : Bases) (line at k : ℕ) (before : List Item) (i : Instruction) → IsResolved whole bases before at (made_item line (mark_of k)) i
    → HasByte op.Oi 128 (context_of whole bases line before (mark_of k)) (word_of_list k) i
unfolding made_item
mark_so whole bases line at k before i r =
    let s = mark_of k in
    let c = context_of whole bases line before s in
    let same : s ≡ r.statement = (let found : Some s ≡ Some r.statement = r.begins in cc) in
    let one : Some (operation.Machine op.Oi) ≡ Some r.operation = sym oi_named ∙ ap (λ k. operation_named k.operation) same ∙ r.named in
    let made : operation.Machine op.Oi ≡ r.operation = cc in
    marked c s.operand (word_of_list k) i (word_cut (decimal (4 * k)) (decimal_plain (4 * k)))
    (ap (λ k. instruction_or_fault k c s.operand) made ∙ ap (λ k. instruction_or_fault r.operation (context_of whole bases line before k) k.operand) same ∙ r.resolves)

pub mark_resolved : BranchIsResolved → MarkIsResolved
unfolding AreResolved
mark_resolved branch whole bases line at k before [] r = absurd r
mark_resolved branch whole bases line at k before (i ∷ code) r =
    record {
      mark = i;
      branch = code;
      is = refl;
      marks = mark_so whole bases line at k before i r.0;
      calls = branch whole bases line (at + length_of i.op) (made_item line (mark_of k) ∷ before) code r.1;
    }
