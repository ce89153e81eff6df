-- What is looked at as a conditional branch is one by the table.
use Rattle.std.proofs.Common.{◌≡◌, ℕ, Bool, true, false, Some, List, inl, inr, refl, sym, ap, ◌∙◌, arith}
use Rattle.std.specs.Prelude.{◌==◌, ◌&&◌, ◌||◌, ◌↔◌, ◌⊎◌, ◌/◌, ◌%◌, not, slice_index}
use Rattle.std.proofs.lemmas.Bool.Decides.{nat_tests}
use Rattle.cx_code.specs.Reading.{base_at, decoded_fields, displacement_at, fields_at, left_half, reading, right_half}
use Rattle.cx_code.specs.Spelling.{Instruction, instruction}
use Rattle.cx_code.specs.Table.{code_of, is_shift, op_at, operation_row}
use Rattle.cx_code.specs.declared.instruction.Fields.{Fields}
use Rattle.cx_code.specs.declared.instruction.Fields.TheVariants.{Rr, Rx}
use Rattle.cx_code.specs.declared.table.Op.{Op}
use Rattle.cx_code.specs.declared.table.Op.TheVariants.{Bc, Bcr, Bct, Bctr}
use Rattle.cx_look_cover.specs.Counts.{is_conditional, is_of_some_codes}
use Rattle.cx_look_cover.specs.Laws.{BranchesAreOfTable, IsBranchOp, is_looked_at}
use Rattle.cx_look_cover.proofs.ExecuteLemmas.{IsKnown, IsOnly}

-- ---- by the first byte
or_false : (b : Bool) → (b || false) ≡ b
or_false true = refl
or_false false = refl

conditional_bc : (second : ℕ) → is_conditional 0x47 second ≡ is_of_some_codes (second / 16)
unfolding is_conditional
conditional_bc second = or_false (is_of_some_codes (second / 16))

conditional_bcr : (second : ℕ) → is_conditional 0x07 second ≡ (is_of_some_codes (second / 16) && not (second % 16 == 0))
unfolding is_conditional
conditional_bcr second = or_false (is_of_some_codes (second / 16) && not (second % 16 == 0))

conditional_bct : (second : ℕ) → is_conditional 0x46 second ≡ true
unfolding is_conditional
conditional_bct second = refl

conditional_bctr : (second : ℕ) → is_conditional 0x06 second ≡ not (second % 16 == 0)
unfolding is_conditional
conditional_bctr second = refl

-- ---- the fields
fields_of_bc : (code : List ℕ) → fields_at Bc code ≡ Rx (left_half code) (right_half code) (base_at 2 code) (displacement_at 2 code)
unfolding operation_row fields_at is_shift decoded_fields
fields_of_bc code = refl

fields_of_bcr : (code : List ℕ) → fields_at Bcr code ≡ Rr (left_half code) (right_half code)
unfolding operation_row fields_at is_shift decoded_fields
fields_of_bcr code = refl

fields_of_bctr : (code : List ℕ) → fields_at Bctr code ≡ Rr (left_half code) (right_half code)
unfolding operation_row fields_at is_shift decoded_fields
fields_of_bctr code = refl

same_fields : (op : Op) (f g : Fields) (code : List ℕ) → reading code ≡ Some (instruction op f) → reading code ≡ Some (instruction op g) → f ≡ g
same_fields op f g code p q =
    let one : instruction op f ≡ instruction op g = cc in
    ap (λ (i : Instruction). i.fields) one

first_is : IsOnly → (op : Op) (f : Fields) (code : List ℕ) → reading code ≡ Some (instruction op f) → slice_index code 0 ≡ code_of op
first_is only op f code e = (only code (instruction op f) e).0

read_so : IsKnown → IsOnly → (op : Op) (f : Fields) (code : List ℕ) → reading code ≡ Some (instruction op f) → fields_at op code ≡ f
read_so known only op f code e =
    let parts = only code (instruction op f) e in
    same_fields op (fields_at op code) f code (known code op parts.0 parts.1) e

codes_of : (code_of Bc ≡ 0x47) × (code_of Bcr ≡ 0x07) × (code_of Bct ≡ 0x46) × (code_of Bctr ≡ 0x06)
unfolding operation_row
codes_of = (refl, refl, refl, refl)

looked_at_by : (c : ℕ) (code : List ℕ) → slice_index code 0 ≡ c → is_looked_at code ≡ is_conditional c (slice_index code 1)
looked_at_by c code e = ap (λ (n : ℕ). is_conditional n (slice_index code 1)) e

-- ---- no other is
abbrev IsOneRow : Type 0
IsOneRow = (code : ℕ) (op : Op) → (op_at code ≡ Some op) ↔ (code_of op ≡ code)

same_row : IsOneRow → (c : ℕ) (one other : Op) → code_of one ≡ c → code_of other ≡ c → one ≡ other
same_row row c one other p q =
    let e1 = (row c one).1 p in
    let e2 = (row c other).1 q in
    cc

of_four : (c : ℕ) (second : ℕ) (bc bcr bct bctr : Bool) → (c == 0x47) ≡ bc → (c == 0x07) ≡ bcr → (c == 0x46) ≡ bct → (c == 0x06) ≡ bctr
    → ((bc && is_of_some_codes (second / 16))
    || ((bcr && is_of_some_codes (second / 16) && not (second % 16 == 0)) || (bct || (bctr && not (second % 16 == 0))))) ≡ true
    → (c ≡ 0x47) ⊎ ((c ≡ 0x07) ⊎ ((c ≡ 0x46) ⊎ (c ≡ 0x06)))
of_four c second true bcr bct bctr e1 e2 e3 e4 e = inl (grind (arith, nat_tests, e1))
of_four c second false true bct bctr e1 e2 e3 e4 e = inr (inl (grind (arith, nat_tests, e2)))
of_four c second false false true bctr e1 e2 e3 e4 e = inr (inr (inl (grind (arith, nat_tests, e3))))
of_four c second false false false true e1 e2 e3 e4 e = inr (inr (inr (grind (arith, nat_tests, e4))))
of_four c second false false false false e1 e2 e3 e4 e = absurd (cc)

one_of_four : (c second : ℕ) → is_conditional c second ≡ true → (c ≡ 0x47) ⊎ ((c ≡ 0x07) ⊎ ((c ≡ 0x46) ⊎ (c ≡ 0x06)))
unfolding is_conditional
one_of_four c second e = of_four c second (c == 0x47) (c == 0x07) (c == 0x46) (c == 0x06) refl refl refl refl e

branch_op : IsOneRow → (c : ℕ) (op : Op) → code_of op ≡ c → (c ≡ 0x47) ⊎ ((c ≡ 0x07) ⊎ ((c ≡ 0x46) ⊎ (c ≡ 0x06))) → IsBranchOp op
branch_op row c op is (inl e) = inl (same_row row c op Bc is (codes_of.0 ∙ sym e))
branch_op row c op is (inr (inl e)) = inr (inl (same_row row c op Bcr is (codes_of.1 ∙ sym e)))
branch_op row c op is (inr (inr (inl e))) = inr (inr (inl (same_row row c op Bct is (codes_of.2 ∙ sym e))))
branch_op row c op is (inr (inr (inr e))) = inr (inr (inr (same_row row c op Bctr is (codes_of.3 ∙ sym e))))

pub branches_are_of_table : IsOneRow → IsKnown → IsOnly → BranchesAreOfTable
branches_are_of_table row known only code = record {
  bc = λ m1 x2 b2 d2 e.
      let same = sym (fields_of_bc code) ∙ read_so known only Bc (Rx m1 x2 b2 d2) code e in
      let mask : left_half code ≡ m1 = cc in
      looked_at_by 0x47 code (first_is only Bc (Rx m1 x2 b2 d2) code e ∙ codes_of.0) ∙ conditional_bc (slice_index code 1)
      ∙ ap is_of_some_codes mask;
  bcr = λ m1 r2 e.
      let same = sym (fields_of_bcr code) ∙ read_so known only Bcr (Rr m1 r2) code e in
      let mask : left_half code ≡ m1 = cc in
      let register : right_half code ≡ r2 = cc in
      looked_at_by 0x07 code (first_is only Bcr (Rr m1 r2) code e ∙ codes_of.1) ∙ conditional_bcr (slice_index code 1)
      ∙ ap (λ (m : ℕ). is_of_some_codes m && not (right_half code == 0)) mask
      ∙ ap (λ (r : ℕ). is_of_some_codes m1 && not (r == 0)) register;
  bct = λ r1 x2 b2 d2 e.
      looked_at_by 0x46 code (first_is only Bct (Rx r1 x2 b2 d2) code e ∙ codes_of.2) ∙ conditional_bct (slice_index code 1);
  bctr = λ r1 r2 e.
      let same = sym (fields_of_bctr code) ∙ read_so known only Bctr (Rr r1 r2) code e in
      let register : right_half code ≡ r2 = cc in
      looked_at_by 0x06 code (first_is only Bctr (Rr r1 r2) code e ∙ codes_of.3) ∙ conditional_bctr (slice_index code 1)
      ∙ ap (λ (r : ℕ). not (r == 0)) register;
  others = λ i e is.
      branch_op row (slice_index code 0) i.op (sym (only code i e).0) (one_of_four (slice_index code 0) (slice_index code 1) is);
}
