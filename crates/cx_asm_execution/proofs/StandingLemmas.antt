-- The statements of a source, the bases in use before each, and what each makes.
use Rattle.std.specs.Prelude.{is_some, option_and_then, option_map, reverse, Result, Err, unwrap_or}
use Rattle.std.specs.Option.{option_map_or, option_zip}
use Rattle.std.proofs.Common.{◌≡◌, ◌≤◌, ℕ, suc, ◌+◌, ◌-◌, ◌*◌, ◌/◌, ◌%◌, Bool, true, false, cond, Option, Some, None, Ok, List, [], ◌∷◌, ◌++◌, length, refl, sym, ◌∙◌, ap, subst, arith}
use Rattle.std.specs.List.{AllByRecursion, cons_option}
use Rattle.std.specs.Result.{result_err, result_ok}
use Rattle.std.proofs.lemmas.List.{append_assoc, append-nil, reverse-append}
use Rattle.cx_code.specs.declared.disassembly.Line.{Line}
use Rattle.cx_code.specs.declared.disassembly.LineContent.TheVariants.{Code}
use Rattle.cx_code.specs.declared.table.Op.{Op}
use Rattle.cx_code.specs.declared.table.Op.TheVariants.{Bc, Bcr}
use Rattle.cx_code.specs.declared.table.Format.{Format}
use Rattle.cx_code.specs.declared.table.Format.TheVariants as format
use Rattle.cx_code.specs.Spelling.{Instruction, instruction}
use Rattle.cx_code.specs.Table.{format_of, length_of, length_of_format}
use Rattle.cx_source.specs.declared.source.Item.{Item}
use Rattle.cx_source.specs.declared.source.Source.{Source}
use Rattle.cx_source.specs.declared.source.Stmt.{Stmt}
use Rattle.cx_asm_expressions.specs.Digits.{bound}
use Rattle.cx_asm_expressions.specs.Faults.{lower}
use Rattle.cx_asm_expressions.specs.declared.faults.FaultKind.TheVariants.{BadOperand, UnknownOperation}
use Rattle.cx_asm_expressions.specs.declared.faults.FaultKind.{FaultKind}
use Rattle.cx_asm_operations.specs.Operations.{base_row, operation_named}
use Rattle.cx_asm_operations.specs.declared.operations.Operation.{Operation}
use Rattle.cx_asm_operations.specs.declared.operations.Operation.TheVariants as operation
use Rattle.cx_asm_operations.specs.declared.operations.Directive.{Directive}
use Rattle.cx_asm_operations.specs.declared.operations.Directive.TheVariants as is
use Rattle.cx_asm_pass1.specs.Roles.{directive_role, role_of}
use Rattle.cx_asm_pass1.specs.Facts.Apart.{statement_stands, statement_within, section_ends}
use Rattle.cx_asm_pass1.specs.Facts.StatementExtents.{capped_same, lower_none}
use Rattle.cx_asm_pass1.specs.PassState.{PassState, next_state, after_line, is_control, control_or_blank, section_after, length_after, length_of_section, state_after, extent_in, next_in, parts_in, place_in, role_in, section_fault, name_in}
use Rattle.cx_asm_pass1.specs.Layout.{align, extent_of}
use Rattle.cx_asm_pass1.specs.Laws.Apart.{Stands, section_length}
use Rattle.cx_asm_pass1.specs.Locations.{final_state}
use Rattle.cx_asm_pools.specs.Pools.{cap}
use Rattle.cx_asm_pass1.specs.declared.roles.Role.TheVariants as role
use Rattle.cx_asm_operands.specs.Bases.{Bases, none_in_use}
use Rattle.cx_asm_operands.specs.Directives.{bases_in}
use Rattle.cx_asm_operands.specs.Forms.{fields_in, form_of, operands_of, instruction_or_fault}
use Rattle.cx_asm_operands.specs.Context.{Context}
use Rattle.cx_asm_operands.specs.Checking.{with_made as fields_made}
use Rattle.cx_asm_operands.specs.declared.forms.Form.{Form}
use Rattle.cx_code.specs.declared.instruction.Fields.{Fields}
use Rattle.cx_asm_pass2.specs.Statements.{PlacedStatement, operation_of, placed_statement, statements_of}
use Rattle.cx_asm_pass2.specs.SecondFaults.{bases_after, literals_fault, operand_fault, second_fault}
use Rattle.cx_asm_pass2.specs.Whole.{Whole, directive_context, instruction_context, whole_of}
use Rattle.cx_asm.specs.Resolving.{line, standing_from, statement_standing}
use Rattle.cx_asm.specs.Assembly.{AssemblyParts, assembly_of, assembly_parts, second_faults_of, section_of, control_section_size, standing_of}
use Rattle.cx_asm.specs.Facts.Accepted as facts
use Rattle.cx_asm_execution.specs.MadeLines.{code_lines}
use Rattle.cx_asm_execution.proofs.Resolved.{AreResolved, InstructionsStand, bases_from, bases_in_use, is_instruction, is_instruction_role}
use Rattle.cx_asm_laws.specs.Facts.Judged.{NoFault, none_judged}
use Rattle.cx_asm_laws.specs.Facts.Lines.{control_same, fault_kept, own_sound, place_for, reverse_step, section_sound, statements_are, statements_from, statements_joined}
use Rattle.cx_asm_image.specs.Resolved.{AreApart}
use Rattle.cx_asm_image.specs.Text.{section_text}
use Rattle.cx_asm_execution.proofs.InStorage.{TextsAreMade}

-- ---- no fault of the second pass
no_fault_after : (whole : Whole) (xs ys : List PlacedStatement) (bases : Bases) (number : ℕ) → NoFault whole bases number (xs ++ ys) → (n : ℕ) × NoFault whole (bases_from whole bases xs) n ys
unfolding NoFault
no_fault_after whole [] ys bases number e = (number, e)
no_fault_after whole (x ∷ xs) ys bases number e = no_fault_after whole xs ys (bases_after whole bases x) (suc number) e.1

no_fault_in : (whole : Whole) (xs ys : List PlacedStatement) (bases : Bases) (number : ℕ) → NoFault whole bases number (xs ++ ys) → NoFault whole bases number xs
unfolding NoFault
no_fault_in whole [] ys bases number e = tt
no_fault_in whole (x ∷ xs) ys bases number e = (e.0, no_fault_in whole xs ys (bases_after whole bases x) (suc number) e.1)

-- ---- what statements make
made_from : Whole → List PlacedStatement → Bases → List PlacedStatement → List Line
made_from whole all bases [] = []
made_from whole all bases (s ∷ ss) = (statement_standing whole all bases s).lines ++ made_from whole all (bases_after whole bases s) ss

standing_joined : (whole : Whole) (all : List PlacedStatement) (bases : Bases) (xs ys : List PlacedStatement)
    → (standing_from whole all bases (xs ++ ys)).lines ≡ made_from whole all bases xs ++ (standing_from whole all (bases_from whole bases xs) ys).lines
unfolding made_from
standing_joined whole all bases [] ys = refl
standing_joined whole all bases (x ∷ xs) ys =
    ap (λ k. (statement_standing whole all bases x).lines ++ k) (standing_joined whole all (bases_after whole bases x) xs ys)
    ∙ sym (append_assoc (statement_standing whole all bases x).lines (made_from whole all (bases_after whole bases x) xs) (standing_from whole all (bases_from whole (bases_after whole bases x) xs) ys).lines)

made_joined : (whole : Whole) (all : List PlacedStatement) (bases : Bases) (xs ys : List PlacedStatement) → made_from whole all bases (xs ++ ys) ≡ made_from whole all bases xs ++ made_from whole all (bases_from whole bases xs) ys
unfolding made_from
made_joined whole all bases [] ys = refl
made_joined whole all bases (x ∷ xs) ys =
    ap (λ k. (statement_standing whole all bases x).lines ++ k) (made_joined whole all (bases_after whole bases x) xs ys)
    ∙ sym (append_assoc (statement_standing whole all bases x).lines (made_from whole all (bases_after whole bases x) xs) (made_from whole all (bases_from whole (bases_after whole bases x) xs) ys))

-- ---- an accepted source
abbrev pub Short : Type 0
Short = (source : Source) (made : AssemblyParts) → assembly_of source ≡ Ok made → control_section_size source ≤ 65536

abbrev pub Long : Type 0
Long = (source : Source) (made : AssemblyParts) → assembly_of source ≡ Ok made → length made.section.image.text ≡ control_section_size source

abbrev pub Apart : Type 0
Apart = (source : Source) (made : AssemblyParts) → assembly_of source ≡ Ok made → AreApart 0 made.section.resolved (length made.section.image.text)

pub record IsAccepted (source : Source) (assembly : AssemblyParts) : Type 0 where
  pub first : (final_state source).fault ≡ None
  pub second : second_faults_of source ≡ []
  pub made : assembly_parts source ≡ assembly

pub accepted : (source : Source) (assembly : AssemblyParts) → assembly_of source ≡ Ok assembly → IsAccepted source assembly
accepted source assembly e = (let ok = facts.accepted source assembly e in record { first = ok.sound; second = ok.second; made = ok.made_is })

-- its text is that of its resolved lines
pub texts_are_made : Short → Long → Apart → TextsAreMade
unfolding section_of
texts_are_made short long apart source assembly e =
    let size = long source assembly e in
    let lines : assembly.section.resolved ≡ (section_of source).resolved = ap (λ k. k.section.resolved) (sym (accepted source assembly e).made) in
    let text : assembly.section.image.text ≡ section_text (section_of source).resolved (control_section_size source) = ap (λ k. k.section.image.text) (sym (accepted source assembly e).made) in
    record {
      apart = apart source assembly e;
      text = text ∙ rw (lines, size) refl;
      short = (let least = short source assembly e in omega (arith, least, size));
    }

-- ---- operations that make instructions
no_directive : (d : Directive) → is_instruction_role (directive_role d) ≡ false
no_directive is.Csect = refl
no_directive is.Start = refl
no_directive is.Dsect = refl
no_directive is.Equ = refl
no_directive is.Ds = refl
no_directive is.Dc = refl
no_directive is.Ltorg = refl
no_directive is.Dfhregs = refl
no_directive is.Copy = refl
no_directive is.Using = refl
no_directive is.Drop = refl
no_directive is.End = refl
no_directive is.Title = refl
no_directive is.Print = refl
no_directive is.Eject = refl
no_directive is.Space = refl

record HasRow (o : Operation) : Type 0 where
  op : Op
  row : base_row o ≡ Some op
  role : role_of (Some o) ≡ role.Instruction (length_of op)
  bases : (c : Context) (operand : List ℕ) → bases_in o c operand ≡ Ok c.bases
  fault : (whole : Whole) (bases : Bases) (number : ℕ) (s : PlacedStatement) → operand_fault whole bases number s (Some o)
      ≡ lower (result_err (instruction_or_fault o (instruction_context whole bases s) s.stmt.operand)) (literals_fault whole number s)

has_row : (o : Operation) → is_instruction_role (role_of (Some o)) ≡ true → HasRow o
unfolding bases_in
has_row (operation.Machine op) e = record { op = op; row = refl; role = refl; bases = λ c operand. refl; fault = λ whole bases number s. refl }
has_row (operation.Branch b) e = record { op = Bc; row = refl; role = refl; bases = λ c operand. refl; fault = λ whole bases number s. refl }
has_row (operation.RegisterBranch b) e = record { op = Bcr; row = refl; role = refl; bases = λ c operand. refl; fault = λ whole bases number s. refl }
has_row (operation.Directive d) e = (let no = no_directive d in absurd (cc))

record Makes (o : Operation) (c : Context) (operand : List ℕ) (op : Op) : Type 0 where
  made : Instruction
  is : instruction_or_fault o c operand ≡ Ok made
  of : made.op ≡ op

abbrev resolved_as : Option Op → Option Form → Context → List ℕ → Result Instruction FaultKind
resolved_as row is c operand = option_map_or (λ (v : Op × Form). fields_made (instruction v.0) (fields_in v.1 c (operands_of operand))) (option_zip row is) (Err UnknownOperation)

makes : (o : Operation) (c : Context) (operand : List ℕ) (op : Op) → base_row o ≡ Some op → result_err (instruction_or_fault o c operand) ≡ None → Makes o c operand op
unfolding instruction_or_fault
makes o c operand op row e = go (base_row o) (form_of o) refl refl row e
  where
    fields_there : (at : Option Op) (f : Form) (found : Result Fields FaultKind) → base_row o ≡ at → form_of o ≡ Some f → at ≡ Some op → fields_in f c (operands_of operand) ≡ found
        → result_err (resolved_as at (Some f) c operand) ≡ None → Makes o c operand op
    fields_there None f found a b row is e = absurd (cc)
    fields_there (Some op') f (Err fault) a b row is e = (let no : result_err (fields_made (instruction op') (fields_in f c (operands_of operand))) ≡ None = e in let bad : result_err (fields_made (instruction op') (Err fault)) ≡ None = rw is at no in absurd (cc))
    fields_there (Some op') f (Ok fields) a b row is e =
        record { made = instruction op' fields; is = rw (a, b, is) refl; of = cc }

    go : (at : Option Op) (f : Option Form) → base_row o ≡ at → form_of o ≡ f → at ≡ Some op → result_err (resolved_as at f c operand) ≡ None → Makes o c operand op
    go None f a b row e = absurd (cc)
    go (Some op') None a b row e = absurd (cc)
    go (Some op') (Some f) a b row e = fields_there (Some op') f (fields_in f c (operands_of operand)) a b row refl e

even_format : (f : Format) → length_of_format f % 2 ≡ 0
even_format format.Rr = refl
even_format format.Rx = refl
even_format format.Rs = refl
even_format format.Si = refl
even_format format.Ss = refl
even_format format.Ss2 = refl

-- ---- one instruction's statement
record Begins (item : Item) : Type 0 where
  stmt : Stmt
  begins : item.stmt ≡ Some stmt
  operation : Operation
  named : operation_named stmt.operation ≡ Some operation
  row : HasRow operation

begins_so : (item : Item) → is_instruction item.stmt ≡ true → Begins item
begins_so item e = go item.stmt refl e
  where
    named_so : (stmt : Stmt) (o : Option Operation) → item.stmt ≡ Some stmt → operation_named stmt.operation ≡ o → is_instruction_role (role_of o) ≡ true → Begins item
    named_so stmt None begins named e = absurd (cc)
    named_so stmt (Some o) begins named e = record { stmt = stmt; begins = begins; operation = o; named = named; row = has_row o e }

    go : (stmt : Option Stmt) → item.stmt ≡ stmt → is_instruction stmt ≡ true → Begins item
    go None begins e = absurd (cc)
    go (Some stmt) begins e = named_so stmt (operation_named stmt.operation) begins refl e

controls : (section control : Option (List ℕ)) (size : ℕ) (name : Option (List ℕ)) → section_fault (role.Instruction size) name section control ≡ None → is_control section control ≡ true
controls section control size name e = go (is_control section control) e
  where
    go : (b : Bool) → cond b None (Some BadOperand) ≡ None → b ≡ true
    go true e = refl
    go false e = absurd (cc)

-- where it is, and where the next one is
record IsPlaced (before : List Item) (line : ℕ) (stmt : Stmt) (size : ℕ) : Type 0 where
  offset : (extent_in stmt (state_after before)).offset ≡ align 2 (next_in (state_after before))
  within : is_control (state_after before).section (state_after before).control ≡ true
  next : align 2 (next_in (next_state line stmt (state_after before))) ≡ align 2 (next_in (state_after before)) + size

section_end : (state : PassState) (end : ℕ) (section : Option (List ℕ)) → state.section ≡ section → is_control section state.control ≡ true
    → length_of_section section (length_after state.section end state.lengths) ≡ end
section_end state end None e is = absurd (cc)
section_end state end (Some name) e is = section_ends state end name e

aligned_even : (n : ℕ) → n % 2 ≡ 0 → align 2 n ≡ n
aligned_even n e = (let same : (n + (2 - 1)) / 2 * 2 ≡ n = omega (arith, e) in same)

pub offset_is : (stmt : Stmt) (op : Op) (state : PassState) → role_in stmt ≡ role.Instruction (length_of op) → (extent_in stmt state).offset ≡ align 2 (next_in state)
unfolding extent_of
offset_is stmt op state is = rw is refl

next_is : (line : ℕ) (stmt : Stmt) (op : Op) (state : PassState) → role_in stmt ≡ role.Instruction (length_of op) → is_control state.section state.control ≡ true → (extent_in stmt state).end ≤ bound
    → next_in (next_state line stmt state) ≡ (extent_in stmt state).end
unfolding next_state
next_is line stmt op state is within small =
    let lengths = length_after state.section (extent_in stmt state).end state.lengths in
    let same : length_of_section (section_after (role_in stmt) (name_in stmt) state.section state.control) lengths ≡ (extent_in stmt state).end =
    ap (λ r. length_of_section (section_after r (name_in stmt) state.section state.control) lengths) is
    ∙ ap (λ b. length_of_section (cond (is_some (cond b None (Some BadOperand))) (control_or_blank state.control) state.section) lengths) within
    ∙ section_end state (extent_in stmt state).end state.section refl within in
    ap cap same ∙ capped_same (extent_in stmt state).end small

is_placed : (before : List Item) (line : ℕ) (stmt : Stmt) (op : Op) → role_in stmt ≡ role.Instruction (length_of op) → (next_state line stmt (state_after before)).fault ≡ None
    → IsPlaced before line stmt (length_of op)
is_placed before line stmt op is sound =
    let state = state_after before in
    let within : is_control state.section state.control ≡ true =
    controls state.section state.control (length_of op) (name_in stmt)
    (subst (λ r. section_fault r (name_in stmt) state.section state.control ≡ None) is (section_sound stmt state (own_sound line stmt state sound))) in
    let stands : Stands (role.Instruction (length_of op)) (parts_in stmt) state.pool (section_length state) (extent_in stmt state) =
    subst (λ r. Stands r (parts_in stmt) state.pool (section_length state) (extent_in stmt state)) is (statement_stands before line stmt sound) in
    let small : (extent_in stmt state).end ≤ bound = statement_within before line stmt sound in
    let offset : (extent_in stmt state).offset ≡ align 2 (next_in state) = offset_is stmt op state is in
    let even : length_of op % 2 ≡ 0 = even_format (format_of op) in
    let end_even : (extent_in stmt state).end % 2 ≡ 0 = (let at = stands.1 in let ends = stands.2 in omega (arith, even, at, ends)) in
    let next : next_in (next_state line stmt state) ≡ (extent_in stmt state).end = next_is line stmt op state is within small in
    record {
      offset = offset;
      within = within;
      next = rw next (aligned_even (extent_in stmt state).end end_even ∙ (let ends = stands.2 in omega (arith, ends, offset)));
    }

-- ---- lines with nothing but instructions on them
record IsCode (whole : Whole) (all : List PlacedStatement) (bases : Bases) (before items : List Item) : Type 0 where
  code : List Instruction
  resolved : AreResolved whole bases before (align 2 (next_in (state_after before))) items code
  lines : made_from whole all bases (statements_from before items) ≡ code_lines (align 2 (next_in (state_after before))) code

one_line : (whole : Whole) (all : List PlacedStatement) (bases : Bases) (s : PlacedStatement) (o : Operation) (i : Instruction) (size : ℕ) → is_control s.place.section whole.control ≡ true → role_in s.stmt ≡ role.Instruction size
    → operation_of s ≡ Some o → instruction_or_fault o (instruction_context whole bases s) s.stmt.operand ≡ Ok i → (statement_standing whole all bases s).lines ≡ line s.place.offset (Code i) ∷ []
unfolding statement_standing
one_line whole all bases s o i size within is named made = rw (within, is, named, made) refl

sound_operand : (whole : Whole) (bases : Bases) (number : ℕ) (s : PlacedStatement) (o : Operation) → HasRow o → operation_of s ≡ Some o → second_fault whole bases number s ≡ None
    → result_err (instruction_or_fault o (instruction_context whole bases s) s.stmt.operand) ≡ None
unfolding second_fault
sound_operand whole bases number s o row named e =
    let own = sym (row.fault whole bases number s) ∙ ap (operand_fault whole bases number s) (sym named) ∙ e in
    (lower_none (result_err (instruction_or_fault o (instruction_context whole bases s) s.stmt.operand)) (literals_fault whole number s) own).0

same_bases : (whole : Whole) (bases : Bases) (s : PlacedStatement) (o : Operation) → HasRow o → operation_of s ≡ Some o → bases_after whole bases s ≡ bases
unfolding bases_after
same_bases whole bases s o row named =
    let c = directive_context whole bases s in
    ap (λ k. option_map_or (λ it. unwrap_or (result_ok (bases_in it c s.stmt.operand)) bases) k bases) named
    ∙ ap (λ r. unwrap_or (result_ok r) bases) (row.bases c s.stmt.operand)

all_code : (whole : Whole) (all : List PlacedStatement) (bases : Bases) (number : ℕ) (before items more : List Item) → AllByRecursion (λ item. is_instruction item.stmt ≡ true) items
    → (state_after (more ++ (reverse items ++ before))).fault ≡ None → whole.control ≡ (state_after (more ++ (reverse items ++ before))).control
    → NoFault whole bases number (statements_from before items) → IsCode whole all bases before items
unfolding AreResolved code_lines made_from NoFault
all_code whole all bases number before [] more are sound control faults = record { code = []; resolved = tt; lines = refl }
all_code whole all bases number before (item ∷ items) more are sound control faults =
    let state = state_after before in
    let b = begins_so item are.0 in
    let s = placed_statement item.line b.stmt (place_in b.stmt state) in
    let heads : statements_from before (item ∷ items) ≡ s ∷ statements_from (item ∷ before) items =
    ap (λ o. cons_option (option_and_then (λ stmt. option_map (placed_statement item.line stmt) (place_for o state)) o) (statements_from (item ∷ before) items)) b.begins in
    let step : more ++ (reverse (item ∷ items) ++ before) ≡ more ++ (reverse items ++ (item ∷ before)) = ap (λ k. more ++ k) (reverse_step item items before) in
    let sound' : (state_after (more ++ (reverse items ++ (item ∷ before)))).fault ≡ None = subst (λ k. (state_after k).fault ≡ None) step sound in
    let control' : whole.control ≡ (state_after (more ++ (reverse items ++ (item ∷ before)))).control = subst (λ k. whole.control ≡ (state_after k).control) step control in
    let after_is : state_after (item ∷ before) ≡ next_state item.line b.stmt state = ap (λ o. after_line item.line o state) b.begins in
    let here : (next_state item.line b.stmt state).fault ≡ None =
    subst (λ k. k.fault ≡ None) after_is (fault_kept (reverse items) (item ∷ before) (fault_kept more (reverse items ++ (item ∷ before)) sound')) in
    let op = (b.row).op in
    let role_is : role_in b.stmt ≡ role.Instruction (length_of op) = ap role_of b.named ∙ (b.row).role in
    let placed = is_placed before item.line b.stmt op role_is here in
    let faults' : NoFault whole bases number (s ∷ statements_from (item ∷ before) items) = subst (NoFault whole bases number) heads faults in
    let made = makes b.operation (instruction_context whole bases s) b.stmt.operand op (b.row).row (sound_operand whole bases number s b.operation b.row b.named faults'.0) in
    let same = same_bases whole bases s b.operation b.row b.named in
    let within : is_control state.section whole.control ≡ true =
    ap (is_control state.section) (control ∙ ap (λ k. (state_after k).control) (sym (append_assoc more (reverse (item ∷ items)) before)))
    ∙ control_same (more ++ reverse (item ∷ items)) before state.section placed.within in
    let own : (statement_standing whole all bases s).lines ≡ line s.place.offset (Code made.made) ∷ [] =
    one_line whole all bases s b.operation made.made (length_of op) within role_is b.named made.is in
    let rest = all_code whole all bases (suc number) (item ∷ before) items more are.1 sound' control' (subst (λ k. NoFault whole k (suc number) (statements_from (item ∷ before) items)) same faults'.1) in
    let at = align 2 (next_in state) in
    let next : align 2 (next_in (state_after (item ∷ before))) ≡ at + length_of made.made.op =
    ap (λ k. align 2 (next_in k)) after_is ∙ placed.next ∙ ap (λ k. at + length_of k) (sym made.of) in
    record {
      code = made.made ∷ rest.code;
      resolved = (
        record { statement = b.stmt; begins = b.begins; place = placed.offset; operation = b.operation; named = b.named; resolves = made.is },
        subst (λ n. AreResolved whole bases (item ∷ before) n items rest.code) next rest.resolved,
      );
      lines =
          ap (made_from whole all bases) heads ∙ ap (λ k. k ++ made_from whole all (bases_after whole bases s) (statements_from (item ∷ before) items)) own
          ∙ ap (λ k. line k (Code made.made) ∷ made_from whole all (bases_after whole bases s) (statements_from (item ∷ before) items)) placed.offset
          ∙ ap (λ k. line at (Code made.made) ∷ made_from whole all k (statements_from (item ∷ before) items)) same
          ∙ ap (λ k. line at (Code made.made) ∷ k) rest.lines
          ∙ ap (λ k. line at (Code made.made) ∷ code_lines k rest.code) next;
    }

pub instructions_stand : InstructionsStand
unfolding section_of standing_of
instructions_stand source assembly first items after e is are =
    let ok = accepted source assembly e in
    let whole = whole_of source in
    let all = statements_of source in
    let before = reverse first in
    let front = statements_from [] first in
    let own = statements_from before items in
    let rest = statements_from (reverse (first ++ items) ++ []) after in
    let split : all ≡ (front ++ own) ++ rest =
    statements_are source ∙ ap (statements_from []) is ∙ statements_joined (first ++ items) after []
    ∙ ap (λ k. k ++ rest) (statements_joined first items [] ∙ ap (λ k. front ++ statements_from k items) (append-nil (reverse first))) in
    let turned : reverse source.items ≡ reverse after ++ (reverse items ++ before) =
    ap (λ k. reverse k) is ∙ reverse-append (first ++ items) after ∙ ap (λ k. reverse after ++ k) (reverse-append first items) in
    let sound : (state_after (reverse after ++ (reverse items ++ before))).fault ≡ None = subst (λ k. (state_after k).fault ≡ None) turned ok.first in
    let control : whole.control ≡ (state_after (reverse after ++ (reverse items ++ before))).control = ap (λ k. (state_after k).control) turned in
    let none : NoFault whole none_in_use 0 ((front ++ own) ++ rest) = subst (NoFault whole none_in_use 0) split (none_judged source ok.second) in
    let faults = no_fault_after whole front own none_in_use 0 (no_fault_in whole (front ++ own) rest none_in_use 0 none) in
    let code = all_code whole all (bases_from whole none_in_use front) faults.0 before items (reverse after) are sound control faults.1 in
    let same : bases_from whole none_in_use front ≡ bases_in_use source first = ap (bases_from whole none_in_use) (sym (statements_are (record { items = first }))) in
    record {
      at = align 2 (next_in (state_after before));
      code = code.code;
      resolved = subst (λ b. AreResolved whole b before (align 2 (next_in (state_after before))) items code.code) same code.resolved;
      front = made_from whole all none_in_use front;
      back = (standing_from whole all (bases_from whole none_in_use (front ++ own)) rest).lines;
      stand =
          ap (λ k. k.section.resolved) (sym ok.made) ∙ ap (λ k. (standing_from whole all none_in_use k).lines) split ∙ standing_joined whole all none_in_use (front ++ own) rest
          ∙ ap (λ k. k ++ (standing_from whole all (bases_from whole none_in_use (front ++ own)) rest).lines) (made_joined whole all none_in_use front own ∙ ap (λ k. made_from whole all none_in_use front ++ k) code.lines);
    }
