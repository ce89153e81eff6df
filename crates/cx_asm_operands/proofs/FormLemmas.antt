-- What a form's operands give fits the form's fields.
use Rattle.std.proofs.Common.{◌≡◌, ℕ, ◌≤◌, ◌<◌, ◌^◌, Bool, true, false, cond, Option, Some, None, List, [], ◌∷◌, Ok, Err, refl, sym, ◌∙◌, ap, subst, arith}
use Rattle.std.specs.Prelude.{Result, if◌then◌else◌}
use Rattle.std.specs.Option.{option_map_or, option_zip}
use Rattle.cx_asm_expressions.specs.declared.faults.FaultKind.TheVariants.{UnknownOperation}
use Rattle.std.proofs.lemmas.Option.{same_Some}
use Rattle.cx_code.specs.Table.{format_of, is_shift, operation_row}
use Rattle.cx_code.specs.Spelling.{Instruction, instruction, IsWellFormed, AreInRange, format_with, r3_of}
use Rattle.cx_code.specs.declared.table.Op.{Op}
use Rattle.cx_code.specs.declared.table.Op.TheVariants.{Bc, Bcr}
use Rattle.cx_code.specs.declared.table.Format.{Format}
use Rattle.cx_code.specs.declared.table.Format.TheVariants as format
use Rattle.cx_code.specs.declared.instruction.Fields.{Fields}
use Rattle.cx_code.specs.declared.instruction.Fields.TheVariants.{Rr, Rx, Rs, Si, Ss, Ss2}
use Rattle.cx_asm_expressions.specs.declared.faults.FaultKind.{FaultKind}
use Rattle.cx_asm_operations.specs.Operations.{base_row, number}
use Rattle.cx_asm_operations.specs.declared.operations.Mask.{Mask}
use Rattle.cx_asm_operations.specs.declared.operations.Operation.{Operation}
use Rattle.cx_asm_operations.specs.declared.operations.Operation.TheVariants as operation
use Rattle.cx_asm_operands.specs.Checking.{both_or_lower_fault, with_made}
use Rattle.cx_asm_operands.specs.Context.{Context, operand_number, register_in}
use Rattle.cx_asm_operands.specs.Storage.{plain_in, indexed_in, counted_in}
use Rattle.cx_asm_operands.specs.Forms.{fields_in, form_of_op, form_of, operands_of, instruction_or_fault}
use Rattle.cx_asm_operands.specs.declared.addresses.Address.{Address}
use Rattle.cx_asm_operands.specs.declared.forms.Form.{Form}
use Rattle.cx_asm_operands.specs.declared.forms.Form.TheVariants as form
use Rattle.cx_asm_operands.proofs.FitLemmas.{number_fits, both_first, both_second}
use Rattle.cx_asm_operands.proofs.AddressLemmas.{IsInRange, AreSixteen, plain_fits, indexed_fits, counted_in_fits}

abbrev pub format_of_form : Form → Format
format_of_form (form.Format row) = row
format_of_form form.Shift = format.Rs
format_of_form (form.Branch mask) = format.Rx
format_of_form (form.RegisterBranch mask) = format.Rr

abbrev pub is_shift_form : Form → Bool
is_shift_form form.Shift = true
is_shift_form f = false

-- a branch's mask has four bits
abbrev pub HasMask : Form → Type 0
HasMask (form.Branch mask) = mask ≤ 15
HasMask (form.RegisterBranch mask) = mask ≤ 15
HasMask f = Unit {0}

-- the fields are those of the form's format, in their ranges, and a shift's R3 field is zero
abbrev pub Agrees : Form → Fields → Type 0
Agrees f fields = (format_with fields ≡ format_of_form f) × AreInRange fields × (is_shift_form f ≡ true → r3_of fields ≡ 0)

four : (n : ℕ) → n ≤ 15 → n < 2 ^ 4
four n h = omega arith

eight : (n : ℕ) → n ≤ 255 → n < 2 ^ 8
eight n h = omega arith

twelve : (n : ℕ) → n ≤ 4095 → n < 2 ^ 12
twelve n h = omega arith

-- what is made of two values agrees with a form where it does so for each two that are in their ranges
two_agree : {A B : Type 0} (f : Form) (make : A × B → Fields) (x : Result A FaultKind) (y : Result B FaultKind) (fields : Fields)
    → ((a : A) (b : B) → x ≡ Ok a → y ≡ Ok b → Agrees f (make (a, b)))
    → with_made make (both_or_lower_fault x y) ≡ Ok fields → Agrees f fields
two_agree f make (Ok a) (Ok b) fields good e = let same : make (a, b) ≡ fields = grind arith in subst (Agrees f) same (good a b refl refl)
two_agree f make (Ok a) (Err g) fields good e = cc
two_agree f make (Err g) (Ok b) fields good e = cc
two_agree f make (Err g) (Err h) fields good e = cc

one_agrees : {A : Type 0} (f : Form) (make : A → Fields) (x : Result A FaultKind) (fields : Fields)
    → ((a : A) → x ≡ Ok a → Agrees f (make a)) → with_made make x ≡ Ok fields → Agrees f fields
one_agrees f make (Ok a) fields good e = let same : make a ≡ fields = grind arith in subst (Agrees f) same (good a refl)
one_agrees f make (Err g) fields good e = cc

rr : (a b : ℕ) → a ≤ 15 → b ≤ 15 → AreInRange (Rr a b)
rr a b la lb = (four a la, (four b lb, tt))

rx : (a x : ℕ) (s : Address) → a ≤ 15 → x ≤ 15 → IsInRange s → AreInRange (Rx a x s.base s.displacement)
rx a x s la lx ls = (four a la, (four x lx, (four s.base ls.0, (twelve s.displacement ls.1, tt))))

rs : (a x : ℕ) (s : Address) → a ≤ 15 → x ≤ 15 → IsInRange s → AreInRange (Rs a x s.base s.displacement)
rs a x s la lx ls = (four a la, (four x lx, (four s.base ls.0, (twelve s.displacement ls.1, tt))))

si : (i : ℕ) (s : Address) → i ≤ 255 → IsInRange s → AreInRange (Si i s.base s.displacement)
si i s li ls = (eight i li, (four s.base ls.0, (twelve s.displacement ls.1, tt)))

ss : (l : ℕ) (s t : Address) → l ≤ 255 → IsInRange s → IsInRange t → AreInRange (Ss l s.base s.displacement t.base t.displacement)
ss l s t ll ls lt = (eight l ll, (four s.base ls.0, (twelve s.displacement ls.1, (four t.base lt.0, (twelve t.displacement lt.1, tt)))))

ss2 : (l m : ℕ) (s t : Address) → l ≤ 15 → m ≤ 15 → IsInRange s → IsInRange t → AreInRange (Ss2 l m s.base s.displacement t.base t.displacement)
ss2 l m s t ll lm ls lt = (four l ll, (four m lm, (four s.base ls.0, (twelve s.displacement ls.1, (four t.base lt.0, (twelve t.displacement lt.1, tt))))))

registers_agree : (c : Context) (texts : List (List ℕ)) (fields : Fields) → fields_in (form.Format format.Rr) c texts ≡ Ok fields → Agrees (form.Format format.Rr) fields
unfolding fields_in
registers_agree c [] fields e = cc
registers_agree c (t ∷ []) fields e = cc
registers_agree c (t ∷ u ∷ []) fields e =
    two_agree (form.Format format.Rr) (λ v. Rr v.0 v.1) (register_in c t) (register_in c u) fields
    (λ a b i j. (refl, rr a b (number_fits 15 c t a i) (number_fits 15 c u b j), λ s. refl)) e
registers_agree c (t ∷ u ∷ v ∷ more) fields e = cc

indexed_agree : (c : Context) (texts : List (List ℕ)) (fields : Fields) → AreSixteen c → fields_in (form.Format format.Rx) c texts ≡ Ok fields → Agrees (form.Format format.Rx) fields
unfolding fields_in
indexed_agree c [] fields sixteen e = cc
indexed_agree c (t ∷ []) fields sixteen e = cc
indexed_agree c (t ∷ u ∷ []) fields sixteen e =
    two_agree (form.Format format.Rx) (λ v. Rx v.0 v.1.0 v.1.1.base v.1.1.displacement) (register_in c t) (indexed_in c u) fields
    (λ a b i j. let at = indexed_fits c u b sixteen j in (refl, rx a b.0 b.1 (number_fits 15 c t a i) at.0 at.1, λ s. refl)) e
indexed_agree c (t ∷ u ∷ v ∷ more) fields sixteen e = cc

pair_first : {A B : Type 0} (x : Result A FaultKind) (y : Result B FaultKind) (v : A × B) → both_or_lower_fault x y ≡ Ok v → (x ≡ Ok v.0) × (y ≡ Ok v.1)
pair_first x y v e = (both_first x y v e, both_second x y v e)

three_agree : (c : Context) (texts : List (List ℕ)) (fields : Fields) → AreSixteen c → fields_in (form.Format format.Rs) c texts ≡ Ok fields → Agrees (form.Format format.Rs) fields
unfolding fields_in
three_agree c [] fields sixteen e = cc
three_agree c (t ∷ []) fields sixteen e = cc
three_agree c (t ∷ u ∷ []) fields sixteen e = cc
three_agree c (t ∷ u ∷ w ∷ []) fields sixteen e =
    two_agree (form.Format format.Rs) (λ v. Rs v.0 v.1.0 v.1.1.base v.1.1.displacement) (register_in c t) (both_or_lower_fault (register_in c u) (plain_in false c w)) fields
    (λ a b i j. let at = pair_first (register_in c u) (plain_in false c w) b j in
    (refl, rs a b.0 b.1 (number_fits 15 c t a i) (number_fits 15 c u b.0 at.0) (plain_fits false c w b.1 sixteen at.1), λ s. cc)) e
three_agree c (t ∷ u ∷ w ∷ x ∷ more) fields sixteen e = cc

shift_agrees : (c : Context) (texts : List (List ℕ)) (fields : Fields) → AreSixteen c → fields_in form.Shift c texts ≡ Ok fields → Agrees form.Shift fields
unfolding fields_in
shift_agrees c [] fields sixteen e = cc
shift_agrees c (t ∷ []) fields sixteen e = cc
shift_agrees c (t ∷ u ∷ []) fields sixteen e =
    let zero_small : 0 ≤ 15 = omega arith in
    two_agree form.Shift (λ v. Rs v.0 0 v.1.base v.1.displacement) (register_in c t) (plain_in false c u) fields
    (λ a b i j. (refl, rs a 0 b (number_fits 15 c t a i) zero_small (plain_fits false c u b sixteen j), λ s. refl)) e
shift_agrees c (t ∷ u ∷ v ∷ more) fields sixteen e = cc

immediate_agrees : (c : Context) (texts : List (List ℕ)) (fields : Fields) → AreSixteen c → fields_in (form.Format format.Si) c texts ≡ Ok fields → Agrees (form.Format format.Si) fields
unfolding fields_in
immediate_agrees c [] fields sixteen e = cc
immediate_agrees c (t ∷ []) fields sixteen e = cc
immediate_agrees c (t ∷ u ∷ []) fields sixteen e =
    two_agree (form.Format format.Si) (λ v. Si v.1 v.0.base v.0.displacement) (plain_in false c t) (operand_number 255 c u) fields
    (λ a b i j. (refl, si b a (number_fits 255 c u b j) (plain_fits false c t a sixteen i), λ s. refl)) e
immediate_agrees c (t ∷ u ∷ v ∷ more) fields sixteen e = cc

one_length_agrees : (c : Context) (texts : List (List ℕ)) (fields : Fields) → AreSixteen c → fields_in (form.Format format.Ss) c texts ≡ Ok fields → Agrees (form.Format format.Ss) fields
unfolding fields_in
one_length_agrees c [] fields sixteen e = cc
one_length_agrees c (t ∷ []) fields sixteen e = cc
one_length_agrees c (t ∷ u ∷ []) fields sixteen e =
    two_agree (form.Format format.Ss) (λ v. Ss v.0.0 v.0.1.base v.0.1.displacement v.1.base v.1.displacement) (counted_in 256 false c t) (plain_in true c u) fields
    (λ a b i j. let at = counted_in_fits 256 false c t a sixteen i in (refl, ss a.0 a.1 b at.0 at.1 (plain_fits true c u b sixteen j), λ s. refl)) e
one_length_agrees c (t ∷ u ∷ v ∷ more) fields sixteen e = cc

two_lengths_agree : (c : Context) (texts : List (List ℕ)) (fields : Fields) → AreSixteen c → fields_in (form.Format format.Ss2) c texts ≡ Ok fields → Agrees (form.Format format.Ss2) fields
unfolding fields_in
two_lengths_agree c [] fields sixteen e = cc
two_lengths_agree c (t ∷ []) fields sixteen e = cc
two_lengths_agree c (t ∷ u ∷ []) fields sixteen e =
    two_agree (form.Format format.Ss2) (λ v. Ss2 v.0.0 v.1.0 v.0.1.base v.0.1.displacement v.1.1.base v.1.1.displacement) (counted_in 16 false c t) (counted_in 16 true c u) fields
    (λ a b i j. let at = counted_in_fits 16 false c t a sixteen i in let also = counted_in_fits 16 true c u b sixteen j in
    (refl, ss2 a.0 b.0 a.1 b.1 at.0 also.0 at.1 also.1, λ s. refl)) e
two_lengths_agree c (t ∷ u ∷ v ∷ more) fields sixteen e = cc

branch_agrees : (mask : ℕ) (c : Context) (texts : List (List ℕ)) (fields : Fields) → mask ≤ 15 → AreSixteen c → fields_in (form.Branch mask) c texts ≡ Ok fields → Agrees (form.Branch mask) fields
unfolding fields_in
branch_agrees mask c [] fields small sixteen e = cc
branch_agrees mask c (t ∷ []) fields small sixteen e =
    one_agrees (form.Branch mask) (λ v. Rx mask v.0 v.1.base v.1.displacement) (indexed_in c t) fields
    (λ a i. let at = indexed_fits c t a sixteen i in (refl, rx mask a.0 a.1 small at.0 at.1, λ s. refl)) e
branch_agrees mask c (t ∷ u ∷ more) fields small sixteen e = cc

register_branch_agrees : (mask : ℕ) (c : Context) (texts : List (List ℕ)) (fields : Fields) → mask ≤ 15 → fields_in (form.RegisterBranch mask) c texts ≡ Ok fields → Agrees (form.RegisterBranch mask) fields
unfolding fields_in
register_branch_agrees mask c [] fields small e = cc
register_branch_agrees mask c (t ∷ []) fields small e =
    one_agrees (form.RegisterBranch mask) (λ v. Rr mask v) (register_in c t) fields
    (λ a i. (refl, rr mask a small (number_fits 15 c t a i), λ s. refl)) e
register_branch_agrees mask c (t ∷ u ∷ more) fields small e = cc

pub fields_agree : (f : Form) (c : Context) (texts : List (List ℕ)) (fields : Fields) → HasMask f → AreSixteen c → fields_in f c texts ≡ Ok fields → Agrees f fields
fields_agree (form.Format format.Rr) c texts fields mask sixteen e = registers_agree c texts fields e
fields_agree (form.Format format.Rx) c texts fields mask sixteen e = indexed_agree c texts fields sixteen e
fields_agree (form.Format format.Rs) c texts fields mask sixteen e = three_agree c texts fields sixteen e
fields_agree form.Shift c texts fields mask sixteen e = shift_agrees c texts fields sixteen e
fields_agree (form.Format format.Si) c texts fields mask sixteen e = immediate_agrees c texts fields sixteen e
fields_agree (form.Format format.Ss) c texts fields mask sixteen e = one_length_agrees c texts fields sixteen e
fields_agree (form.Format format.Ss2) c texts fields mask sixteen e = two_lengths_agree c texts fields sixteen e
fields_agree (form.Branch m) c texts fields mask sixteen e = branch_agrees m c texts fields mask sixteen e
fields_agree (form.RegisterBranch m) c texts fields mask sixteen e = register_branch_agrees m c texts fields mask e

bit_most : (is : Bool) (n : ℕ) → cond is n 0 ≤ n
bit_most true n = omega arith
bit_most false n = omega arith

mask_most : (m : Mask) → number m ≤ 15
mask_most m = omega (arith, bit_most m.on_0 8, bit_most m.on_1 4, bit_most m.on_2 2, bit_most m.on_3 1)

-- a row of the table agrees with its form
abbrev pub FormOf : Op → Form → Type 0
FormOf op f = (format_of_form f ≡ format_of op) × HasMask f × (is_shift op ≡ true → is_shift_form f ≡ true)

shift_format : (op : Op) → is_shift op ≡ true → format_of op ≡ format.Rs
unfolding is_shift operation_row
shift_format op is = grind arith

op_form : (op : Op) → FormOf op (form_of_op op)
op_form op = go (is_shift op) refl
  where
    go : (b : Bool) → is_shift op ≡ b → FormOf op (if b then form.Shift else form.Format (format_of op))
    go true e = (sym (shift_format op e), tt, λ s. refl)
    go false e = (refl, tt, λ s. cc)

branch_form : (m : Mask) → FormOf Bc (form.Branch (number m))
unfolding operation_row is_shift
branch_form m = (refl, mask_most m, λ s. cc)

register_branch_form : (m : Mask) → FormOf Bcr (form.RegisterBranch (number m))
unfolding operation_row is_shift
register_branch_form m = (refl, mask_most m, λ s. cc)

-- what fits a form is well formed as an instruction of a row of that form
pub agrees_well : (op : Op) (f : Form) (fields : Fields) → FormOf op f → Agrees f fields → IsWellFormed (instruction op fields)
unfolding IsWellFormed
agrees_well op f fields row agrees = (agrees.0 ∙ row.0, agrees.1, λ s. agrees.2 (row.2 s))

operation_form : (o : Operation) (op : Op) (f : Form) → base_row o ≡ Some op → form_of o ≡ Some f → FormOf op f
operation_form (operation.Machine m) op f e g = subst (λ x. FormOf op x) (same_Some _ _ g) (subst (λ y. FormOf y (form_of_op m)) (same_Some _ _ e) (op_form m))
operation_form (operation.Branch b) op f e g = subst (λ x. FormOf op x) (same_Some _ _ g) (subst (λ y. FormOf y (form.Branch (number b))) (same_Some _ _ e) (branch_form b))
operation_form (operation.RegisterBranch b) op f e g = subst (λ x. FormOf op x) (same_Some _ _ g) (subst (λ y. FormOf y (form.RegisterBranch (number b))) (same_Some _ _ e) (register_branch_form b))
operation_form (operation.Directive d) op f e g = cc

pub resolved_well : (o : Operation) (op : Op) (f : Form) (c : Context) (texts : List (List ℕ)) (fields : Fields)
    → base_row o ≡ Some op → form_of o ≡ Some f → AreSixteen c → fields_in f c texts ≡ Ok fields → IsWellFormed (instruction op fields)
resolved_well o op f c texts fields row is sixteen e =
    let form = operation_form o op f row is in
    agrees_well op f fields form (fields_agree f c texts fields form.1 sixteen e)

made_well : (op : Op) (r : Result Fields FaultKind) (i : Instruction) → ((fields : Fields) → r ≡ Ok fields → IsWellFormed (instruction op fields))
    → with_made (instruction op) r ≡ Ok i → (op ≡ i.op) × IsWellFormed i
made_well op (Ok fields) i well e =
    let same : instruction op fields ≡ i = grind arith in (ap (λ x. x.op) same, subst IsWellFormed same (well fields refl))
made_well op (Err fault) i well e = cc

abbrev resolved_as : Option Op → Option Form → Context → List ℕ → Result Instruction FaultKind
resolved_as row is c operand = option_map_or (λ (v : Op × Form). with_made (instruction v.0) (fields_in v.1 c (operands_of operand))) (option_zip row is) (Err UnknownOperation)

resolved_as_well : (o : Operation) (row : Option Op) (is : Option Form) (c : Context) (operand : List ℕ) (i : Instruction) → base_row o ≡ row → form_of o ≡ is → AreSixteen c
    → resolved_as row is c operand ≡ Ok i → (row ≡ Some i.op) × IsWellFormed i
resolved_as_well o None None c operand i e g sixteen h = cc
resolved_as_well o None (Some f) c operand i e g sixteen h = cc
resolved_as_well o (Some op) None c operand i e g sixteen h = cc
resolved_as_well o (Some op) (Some f) c operand i e g sixteen h =
    let both = made_well op (fields_in f c (operands_of operand)) i (λ fields x. resolved_well o op f c (operands_of operand) fields e g sixteen x) h in
    (ap Some both.0, both.1)

pub resolved_is_well_formed : (o : Operation) (c : Context) (operand : List ℕ) (i : Instruction) → AreSixteen c → instruction_or_fault o c operand ≡ Ok i
    → (base_row o ≡ Some i.op) × IsWellFormed i
unfolding instruction_or_fault
resolved_is_well_formed o c operand i sixteen e = resolved_as_well o (base_row o) (form_of o) c operand i refl refl sixteen e
