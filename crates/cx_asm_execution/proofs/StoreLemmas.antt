-- Made statements with register 0, operand by operand.
use Rattle.std.specs.Prelude.{Result, codes, ◌&&◌}
use Rattle.std.proofs.Common.{◌≡◌, ℕ, ◌+◌, Bool, true, false, cond, Some, Ok, List, [], ◌∷◌, ◌++◌, refl, sym, ◌∙◌, ap}
use Rattle.std.proofs.lemmas.List.{append_assoc, append-nil}
use Rattle.cx_code.specs.declared.table.Op.{Op}
use Rattle.cx_code.specs.declared.table.Op.TheVariants as op
use Rattle.cx_code.specs.declared.instruction.Fields.{Fields}
use Rattle.cx_code.specs.declared.instruction.Fields.TheVariants.{Rr, Rx}
use Rattle.cx_code.specs.Spelling.{Instruction, instruction}
use Rattle.cx_code.specs.Table.{is_shift, length_of, ops, operation_row}
use Rattle.cx_source.specs.declared.source.Item.{Item}
use Rattle.cx_source.specs.declared.source.Stmt.{Stmt}
use Rattle.cx_source.specs.Lines.{is_letter, is_symbol_name}
use Rattle.cx_source.specs.Marks.{scan_depth_after, is_length_attribute, is_mark, lies_outside, parts_from, scan_after, within_after}
use Rattle.cx_source.specs.declared.marks.Delimiter.TheVariants.{TopComma}
use Rattle.cx_source.specs.declared.marks.Scan.{Scan}
use Rattle.cx_asm_expressions.specs.declared.faults.FaultKind.{FaultKind}
use Rattle.cx_asm_expressions.specs.Digits.{digit}
use Rattle.cx_asm_expressions.specs.Expressions.{sum_of_values, value_of}
use Rattle.cx_asm_expressions.specs.Terms.{read_term, terms_of}
use Rattle.cx_asm_expressions.specs.Weights.{relocation}
use Rattle.cx_asm_expressions.specs.TermValues.{term_value}
use Rattle.cx_translate.specs.Expansion.{made_item, stmt}
use Rattle.cx_asm_operations.specs.Operations.{operation_named, operations}
use Rattle.cx_asm_operations.specs.declared.operations.Operation.TheVariants as operation
use Rattle.cx_asm_operands.specs.Bases.{Bases}
use Rattle.cx_asm_operands.specs.Context.{Context, operand_number, register_in}
use Rattle.cx_asm_operands.specs.Forms.{fields_in, form_of_op, operands_of, instruction_or_fault}
use Rattle.cx_asm_operands.specs.Checking.{both_or_lower_fault}
use Rattle.cx_asm_operands.specs.Storage.{indexed_in}
use Rattle.cx_asm_operands.specs.declared.addresses.Address.{Address}
use Rattle.cx_code.specs.declared.table.Format.TheVariants as format
use Rattle.cx_asm_operands.specs.declared.forms.Form.TheVariants as form
use Rattle.cx_asm_pass2.specs.Whole.{Whole}
use Rattle.cx_asm_execution.proofs.Resolved.{AreResolved, IsResolved}
use Rattle.cx_asm_execution.proofs.Stores.{AreStores, BranchIsResolved, HasOperand, StoresAreResolved, context_of, entry_in_15, list_of_1, load_of, store_of, word_of_list}
use Rattle.cx_asm_execution.proofs.ArgumentLemmas.{both_ok, made_ok}

-- ---- a text that is one part
some_part : (scan : Scan) (part text : List ℕ) → parts_from TopComma scan part text ≡ [] → ⊥
some_part scan part [] e = cc
some_part scan part (c ∷ after) e = go (lies_outside scan c after && is_mark TopComma scan.depth c) (some_part (scan_after scan c after) (part ++ (c ∷ [])) after) e
  where
    go : (b : Bool) → (parts_from TopComma (scan_after scan c after) (part ++ (c ∷ [])) after ≡ [] → ⊥)
        → cond b (part ∷ parts_from TopComma (scan_after scan c after) [] after) (parts_from TopComma (scan_after scan c after) (part ++ (c ∷ [])) after) ≡ [] → ⊥
    go true f e = cc
    go false f e = f e

whole_part : (scan : Scan) (part text p : List ℕ) → parts_from TopComma scan part text ≡ p ∷ [] → p ≡ part ++ text
whole_part scan part [] p e = (let same : part ≡ p = cc in sym same ∙ sym (append-nil part))
whole_part scan part (c ∷ after) p e =
    go (lies_outside scan c after && is_mark TopComma scan.depth c) (some_part (scan_after scan c after) [] after) (λ f. whole_part (scan_after scan c after) (part ++ (c ∷ [])) after p f) e
  where
    go : (b : Bool) → (parts_from TopComma (scan_after scan c after) [] after ≡ [] → ⊥)
        → (parts_from TopComma (scan_after scan c after) (part ++ (c ∷ [])) after ≡ p ∷ [] → p ≡ part ++ (c ∷ []) ++ after)
        → cond b (part ∷ parts_from TopComma (scan_after scan c after) [] after) (parts_from TopComma (scan_after scan c after) (part ++ (c ∷ [])) after) ≡ p ∷ [] → p ≡ part ++ (c ∷ after)
    go true never f e = (let rest : parts_from TopComma (scan_after scan c after) [] after ≡ [] = cc in absurd (never rest))
    go false never f e = f e ∙ append_assoc part (c ∷ []) after

-- ---- registers
zero_is : (c : Context) → register_in c (codes "0") ≡ Ok 0
unfolding operand_number value_of terms_of within_after read_term is_symbol_name is_letter digit term_value sum_of_values relocation
zero_is c = refl

one_is : (c : Context) → register_in c (codes "1") ≡ Ok 1
unfolding operand_number value_of terms_of within_after read_term is_symbol_name is_letter digit term_value sum_of_values relocation
one_is c = refl

fifteen_is : (c : Context) → register_in c (codes "15") ≡ Ok 15
unfolding operand_number value_of terms_of within_after read_term is_symbol_name is_letter digit term_value sum_of_values relocation
fifteen_is c = refl

-- ---- a register and the rest
record Cut (text : List ℕ) (register : List ℕ) (rest : List ℕ) : Type 0 where
  scan : Scan
  is : operands_of text ≡ register ∷ parts_from TopComma scan [] rest

cut_0 : (text : List ℕ) → Cut (codes "0," ++ text) (codes "0") text
unfolding within_after scan_depth_after is_length_attribute
cut_0 text = record { scan = record { within = false; depth = 0; before = 48; last = 44 }; is = refl }

cut_1 : (text : List ℕ) → Cut (codes "1," ++ text) (codes "1") text
unfolding within_after scan_depth_after is_length_attribute
cut_1 text = record { scan = record { within = false; depth = 0; before = 49; last = 44 }; is = refl }

cut_15 : (text : List ℕ) → Cut (codes "15," ++ text) (codes "15") text
unfolding within_after scan_depth_after is_length_attribute
cut_15 text = record { scan = record { within = false; depth = 0; before = 53; last = 44 }; is = refl }

-- ---- an instruction with one
record HasRx (register : ℕ) (c : Context) (text : List ℕ) (fields : Fields) : Type 0 where
  index : ℕ
  address : Address
  operand : indexed_in c text ≡ Ok (index, address)
  is : fields ≡ Rx register index address.base address.displacement

fields_so : (c : Context) (first : List ℕ) (register : ℕ) (scan : Scan) (text : List ℕ) (tail : List (List ℕ)) (fields : Fields) → register_in c first ≡ Ok register
    → parts_from TopComma scan [] text ≡ tail → fields_in (form.Format format.Rx) c (first ∷ tail) ≡ Ok fields → HasRx register c text fields
unfolding fields_in
fields_so c first register scan text [] fields reg cut e = absurd (cc)
fields_so c first register scan text (one ∷ other ∷ more) fields reg cut e = absurd (cc)
fields_so c first register scan text (s2 ∷ []) fields reg cut e =
    let entire : s2 ≡ text = whole_part scan [] text s2 cut in
    let made = made_ok (λ (v : ℕ × (ℕ × Address)). Rx v.0 (v.1).0 ((v.1).1).base ((v.1).1).displacement) (both_or_lower_fault (register_in c first) (indexed_in c s2)) fields e in
    let parts = both_ok (register_in c first) (indexed_in c s2) (made.0).0 (made.0).1 made.1 in
    let same : (made.0).0 ≡ register = (let found : ◌≡◌ {A = Result ℕ FaultKind} (Ok register) (Ok (made.0).0) = sym reg ∙ parts.0 in cc) in
    record {
      index = ((made.0).1).0;
      address = ((made.0).1).1;
      operand = ap (indexed_in c) (sym entire) ∙ parts.1;
      is = sym made.2 ∙ ap (λ k. Rx k ((made.0).1).0 (((made.0).1).1).base (((made.0).1).1).displacement) same;
    }

with_register : (o : Op) (c : Context) (entire first text : List ℕ) (register : ℕ) (i : Instruction) → form_of_op o ≡ (form.Format format.Rx) → Cut entire first text → register_in c first ≡ Ok register
    → instruction_or_fault (operation.Machine o) c entire ≡ Ok i → HasOperand o register c text i
unfolding instruction_or_fault
with_register o c entire first text register i indexed cut reg e =
    let made = made_ok (instruction o) (fields_in (form_of_op o) c (operands_of entire)) i e in
    let fields : fields_in (form.Format format.Rx) c (first ∷ parts_from TopComma cut.scan [] text) ≡ Ok made.0 =
    sym (ap (λ k. fields_in k c (first ∷ parts_from TopComma cut.scan [] text)) indexed) ∙ sym (ap (fields_in (form_of_op o) c) cut.is) ∙ made.1 in
    let rx = fields_so c first register cut.scan text (parts_from TopComma cut.scan [] text) made.0 reg refl fields in
    record { index = rx.index; address = rx.address; operand = rx.operand; is = sym made.2 ∙ ap (instruction o) rx.is }

with_zero : (o : Op) (c : Context) (text : List ℕ) (i : Instruction) → form_of_op o ≡ (form.Format format.Rx) → instruction_or_fault (operation.Machine o) c (codes "0," ++ text) ≡ Ok i → HasOperand o 0 c text i
with_zero o c text i indexed e = with_register o c (codes "0," ++ text) (codes "0") text 0 i indexed (cut_0 text) (zero_is c) e

-- ---- made statements
la_named : operation_named (codes "LA") ≡ Some (operation.Machine op.La)
unfolding operation_named operations ops operation_row
la_named = refl

st_named : operation_named (codes "ST") ≡ Some (operation.Machine op.St)
unfolding operation_named operations ops operation_row
st_named = refl

la_indexed : form_of_op op.La ≡ (form.Format format.Rx)
unfolding operation_row is_shift
la_indexed = refl

st_indexed : form_of_op op.St ≡ (form.Format format.Rx)
unfolding operation_row is_shift
st_indexed = refl

pub resolved_so : (whole : Whole) (bases : Bases) (line at : ℕ) (before : List Item) (s : Stmt) (o : Op) (i : Instruction) → operation_named s.operation ≡ Some (operation.Machine o)
    → IsResolved whole bases before at (made_item line s) i → instruction_or_fault (operation.Machine o) (context_of whole bases line before s) s.operand ≡ Ok i
unfolding made_item
resolved_so whole bases line at before s o i named r =
    let same : s ≡ r.statement = (let found : Some s ≡ Some r.statement = r.begins in cc) in
    let one : Some (operation.Machine o) ≡ Some r.operation = sym named ∙ ap (λ k. operation_named k.operation) same ∙ r.named in
    let made : operation.Machine o ≡ r.operation = cc in
    ap (λ k. instruction_or_fault k (context_of whole bases line before s) s.operand) made ∙ ap (λ k. instruction_or_fault r.operation (context_of whole bases line before k) k.operand) same ∙ r.resolves

pub stores_resolved : StoresAreResolved
unfolding AreResolved AreStores
stores_resolved whole bases line at k before [] [] r = tt
stores_resolved whole bases line at k before [] (i ∷ code) r = absurd r
stores_resolved whole bases line at k before (argument ∷ list) [] r = absurd r
stores_resolved whole bases line at k before (argument ∷ list) (i ∷ []) r = absurd r.1
stores_resolved whole bases line at k before (argument ∷ list) (i ∷ j ∷ code) r = (
  with_zero op.La (context_of whole bases line before (load_of argument)) argument i la_indexed (resolved_so whole bases line at before (load_of argument) op.La i la_named r.0),
  with_zero op.St (context_of whole bases line (made_item line (load_of argument) ∷ before) (store_of k)) (word_of_list k) j st_indexed
      (resolved_so whole bases line (at + length_of i.op) (made_item line (load_of argument) ∷ before) (store_of k) op.St j st_named (r.1).0),
  stores_resolved whole bases line (at + length_of i.op + length_of j.op) (k + 1) (made_item line (store_of k) ∷ made_item line (load_of argument) ∷ before) list code (r.1).1,
)

-- ---- the branch
pub l_named : operation_named (codes "L") ≡ Some (operation.Machine op.L)
unfolding operation_named operations ops operation_row
l_named = refl

balr_named : operation_named (codes "BALR") ≡ Some (operation.Machine op.Balr)
unfolding operation_named operations ops operation_row
balr_named = refl

pub l_indexed : form_of_op op.L ≡ (form.Format format.Rx)
unfolding operation_row is_shift
l_indexed = refl

balr_is : (c : Context) → instruction_or_fault (operation.Machine op.Balr) c (codes "14,15") ≡ Ok (instruction op.Balr (Rr 14 15))
unfolding instruction_or_fault fields_in operation_row is_shift operand_number value_of terms_of within_after scan_depth_after is_length_attribute read_term is_symbol_name is_letter digit term_value sum_of_values relocation
balr_is c = refl

pub branch_resolved : BranchIsResolved
unfolding AreResolved
branch_resolved whole bases line at before [] r = absurd r
branch_resolved whole bases line at before (i ∷ []) r = absurd r.1
branch_resolved whole bases line at before (i ∷ j ∷ []) r = absurd (r.1).1
branch_resolved whole bases line at before (i ∷ j ∷ k ∷ more ∷ code) r = absurd ((r.1).1).1
branch_resolved whole bases line at before (i ∷ j ∷ k ∷ []) r =
    let one = context_of whole bases line before list_of_1 in
    let after = made_item line list_of_1 ∷ before in
    let two = context_of whole bases line after entry_in_15 in
    let last = stmt [] (codes "BALR") (codes "14,15") in
    let three = context_of whole bases line (made_item line entry_in_15 ∷ after) last in
    let balr : instruction_or_fault (operation.Machine op.Balr) three (codes "14,15") ≡ Ok k =
    resolved_so whole bases line (at + length_of i.op + length_of j.op) (made_item line entry_in_15 ∷ after) last op.Balr k balr_named ((r.1).1).0 in
    let same : k ≡ instruction op.Balr (Rr 14 15) = (let found : Ok k ≡ Ok (instruction op.Balr (Rr 14 15)) = sym balr ∙ balr_is three in cc) in
    record {
      list = i;
      entry = j;
      is = ap (λ l. i ∷ j ∷ l ∷ []) same;
      loads = with_register op.La one (codes "1,DFHEIPL") (codes "1") (codes "DFHEIPL") 1 i la_indexed (cut_1 (codes "DFHEIPL")) (one_is one)
          (resolved_so whole bases line at before list_of_1 op.La i la_named r.0);
      takes = with_register op.L two (codes "15,=V(DFHEI1)") (codes "15") (codes "=V(DFHEI1)") 15 j l_indexed (cut_15 (codes "=V(DFHEI1)")) (fifteen_is two)
          (resolved_so whole bases line (at + length_of i.op) after entry_in_15 op.L j l_named (r.1).0);
    }
