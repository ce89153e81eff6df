-- The statements that lines are written as are assembled to the same text.
use Rattle.std.specs.Prelude.{◌≢◌, ⊤, codes, decimal, flat_map, map, nat_le, option_and_then, option_map, replicate, reverse, slice_get, unwrap_or, zip}
use Rattle.std.specs.Option.{option_map_or}
use Rattle.std.proofs.Common.{◌≡◌, ◌≤◌, ◌<◌, ℕ, ◌+◌, ◌-◌, ◌%◌, Bool, true, false, cond, ◌==◌, Option, Some, None, Ok, List, [], ◌∷◌, ◌++◌, length, ⊎_elim, refl, sym, ◌∙◌, ap, subst, arith}
use Rattle.std.specs.List.{AllByRecursion, cons_option, filter_map, find}
use Rattle.std.specs.Str.{bytes_eq}
use Rattle.std.proofs.lemmas.Bool.Decides.{leb_tells, nat_tests}
use Rattle.std.proofs.lemmas.List.{append-nil}
use Rattle.std.proofs.lemmas.Grind.{reverse_onto}
use Rattle.std.proofs.lemmas.Slice.Eq.{bytes_eq-Decides}
use Rattle.cx_code.specs.Spelling.{Instruction, IsWellFormed}
use Rattle.cx_code.specs.Table.{format_of, length_of, length_of_format, mnemonic_of}
use Rattle.cx_code.specs.declared.table.Format.{Format}
use Rattle.cx_code.specs.declared.table.Format.TheVariants as format
use Rattle.cx_code.specs.Text.{hex_pair}
use Rattle.cx_code.specs.declared.disassembly.Line.{Line}
use Rattle.cx_code.specs.declared.disassembly.LineContent.{LineContent}
use Rattle.cx_code.specs.declared.disassembly.LineContent.TheVariants.{Code, Data, Space}
use Rattle.cx_source.specs.declared.source.Item.{Item}
use Rattle.cx_source.specs.declared.source.Source.{Source}
use Rattle.cx_source.specs.declared.source.Stmt.{Stmt}
use Rattle.cx_asm_expressions.specs.Bytes.{copy_of_constant, constant_copy}
use Rattle.cx_asm_expressions.specs.Faults.{lowest}
use Rattle.cx_asm_expressions.specs.Items.{constant, constant_in}
use Rattle.cx_asm_expressions.specs.Names.{is_same, symbol_name}
use Rattle.cx_asm_expressions.specs.Weights.{stands_in}
use Rattle.cx_asm_expressions.specs.declared.kinds.ConstantKind.TheVariants.{Hexadecimal}
use Rattle.cx_asm_expressions.specs.declared.values.Value.{Value}
use Rattle.cx_asm_pools.specs.Pools.{cap}
use Rattle.cx_asm_pass1.specs.Facts.AllFaults.{first_of_faults}
use Rattle.cx_asm_pass1.specs.Facts.StatementExtents.{capped_same}
use Rattle.cx_asm_pass1.specs.AllFaults.{place_faults}
use Rattle.cx_asm_pass1.specs.Given.{location_counter}
use Rattle.cx_asm_pass1.specs.Layout.{extent_of}
use Rattle.cx_asm_pass1.specs.Locations.{all_pools, control_section, final_state, storage_length}
use Rattle.cx_asm_pass1.specs.PassState.{PassState, after_line, state_at_start, statement_fault_in, is_control, next_state, parts_in, place_in, role_in, state_after}
use Rattle.cx_asm_pass1.specs.Roles.{role_of}
use Rattle.cx_asm_pass1.specs.declared.place.LineFault.{LineFault}
use Rattle.cx_asm_pass1.specs.declared.place.Place.{Place}
use Rattle.cx_asm_pass1.specs.declared.roles.Role.TheVariants.{Instruction as Machine, Control, Storage}
use Rattle.cx_asm_operations.specs.Operations.{operation_named}
use Rattle.cx_asm_operations.specs.declared.operations.Directive.TheVariants as directive
use Rattle.cx_asm_operations.specs.declared.operations.Operation.{Operation}
use Rattle.cx_asm_operations.specs.declared.operations.Operation.TheVariants as operation
use Rattle.cx_asm_operands.specs.Bases.{Bases, none_in_use}
use Rattle.cx_asm_operands.specs.Directives.{bases_in, entry_in}
use Rattle.cx_asm_operands.specs.Forms.{instruction_or_fault}
use Rattle.cx_asm_image.specs.Assembled.{assembled_parts}
use Rattle.cx_asm_image.specs.Resolved.{AreApart, bytes_of, offset_after, size_of}
use Rattle.cx_asm_image.specs.Text.{text_from}
use Rattle.cx_asm_pass2.specs.SecondFaults.{bases_after, bases_after_all, operand_fault, part_fault, second_fault, second_faults_after}
use Rattle.cx_asm_pass2.specs.Statements.{PlacedStatement, first_end as end_statement_of, operation_of, placed_items, placed_statement, statements_of}
use Rattle.cx_asm_pass2.specs.Whole.{Whole, instruction_context, item_made, whole_of}
use Rattle.cx_asm.specs.Assembly.{assembly_faults, assembly_of, entry_by, assembly_parts as assembly_made_of, second_faults_of, section_of, control_section_size as section_size, standing_of}
use Rattle.cx_asm.specs.Resolving.{constant_standing, data_line, data_standing, empty_section, item_standing, items_standing, join_sections, last_pool, line, role_standing, space_line, space_standing, standing, standing_from, statement_standing}
use Rattle.cx_asm_laws.specs.Facts.Hexadecimals.{EachIsByte, constant_is, hex_length, hex_plain, made_is}
use Rattle.cx_asm_laws.specs.Facts.Lines.{place_for, reverse_step, statements_are, statements_from}
use Rattle.cx_asm_laws.specs.Laws.Again.{filled, space, statement, statement_of, statements_again}
use Rattle.cx_asm_laws.proofs.LiteralLemmas.{all_joined}
use Rattle.cx_asm_laws.proofs.ReadLemmas.{data_operand, instruction_read, no_literals, space_operand, space_written}
use Rattle.cx_asm_laws.proofs.WrittenLemmas.{AreSoundFrom, IsAt, IsNoLiteral, IsSoundAt, Known, at_end, csect_named, dc_named, ds_named, end_after, end_from, end_named, place_of, same_section, space_size, step}

abbrev end_statement : Stmt
end_statement = statement [] (codes "END") []

abbrev stated : List Item → List Stmt
stated items = filter_map (λ item. item.stmt) items

-- ---- the statements of lines
head_none : (item : Item) (items before : List Item) → item.stmt ≡ None → statements_from before (item ∷ items) ≡ statements_from (item ∷ before) items
head_none item items before is =
    ap (λ o. cons_option (option_and_then (λ stmt. option_map (placed_statement item.line stmt) (place_for o (state_after before))) o) (statements_from (item ∷ before) items)) is

head_some : (item : Item) (items before : List Item) (s : Stmt) → item.stmt ≡ Some s
    → statements_from before (item ∷ items) ≡ placed_statement item.line s (place_in s (state_after before)) ∷ statements_from (item ∷ before) items
head_some item items before s is =
    ap (λ o. cons_option (option_and_then (λ stmt. option_map (placed_statement item.line stmt) (place_for o (state_after before))) o) (statements_from (item ∷ before) items)) is

record AreQuiet (items before : List Item) : Type 0 where
  state : state_after (reverse items ++ before) ≡ state_after before
  none : statements_from before items ≡ []

quiet_lines : (items before : List Item) → stated items ≡ [] → AreQuiet items before
quiet_lines [] before e = record { state = refl; none = refl }
quiet_lines (item ∷ items) before e = go item.stmt refl e (λ f. quiet_lines items (item ∷ before) f)
  where
    go : (o : Option Stmt) → item.stmt ≡ o → cons_option o (stated items) ≡ [] → (stated items ≡ [] → AreQuiet items (item ∷ before)) → AreQuiet (item ∷ items) before
    go None is e more =
        let rest = more e in
        record { state = ap state_after (reverse_step item items before) ∙ rest.state ∙ ap (λ o. after_line item.line o (state_after before)) is; none = head_none item items before is ∙ rest.none }
    go (Some s) is e more = absurd (cc)

-- statements at their places, and END
ArePlaced : List ℕ → ℕ → List LineContent → List PlacedStatement → Type 0
ArePlaced section at [] [] = ⊥
ArePlaced section at [] (s ∷ []) = s.stmt ≡ end_statement
ArePlaced section at [] (s ∷ other ∷ more) = ⊥
ArePlaced section at (what ∷ whats) [] = ⊥
ArePlaced section at (what ∷ whats) (s ∷ statements) =
    ((s.stmt ≡ statement_of what) × (s.place ≡ place_of section at what)) × ArePlaced section (at + size_of what) whats statements

pub record Passed (section : List ℕ) (at : ℕ) (whats : List LineContent) (items before : List Item) : Type 0 where
  last : IsAt section (end_from at whats) (state_after (reverse items ++ before))
  placed : ArePlaced section at whats (statements_from before items)

module _ (known : Known) (section : List ℕ) where
  passed : (items before : List Item) (at : ℕ) (whats : List LineContent) → IsAt section at (state_after before) → AreSoundFrom at whats → end_from at whats ≤ 65536
      → stated items ≡ map statement_of whats ++ end_statement ∷ [] → Passed section at whats items before
  unfolding ArePlaced
  passed [] before at [] is sound small e = absurd (cc)
  passed [] before at (what ∷ whats) is sound small e = absurd (cc)
  passed (item ∷ items) before at whats is sound small e =
      go item.stmt whats refl is sound small e (λ at' whats' is' sound' small' e'. passed items (item ∷ before) at' whats' is' sound' small' e')
    where
      go : (o : Option Stmt) (whats : List LineContent) → item.stmt ≡ o → IsAt section at (state_after before) → AreSoundFrom at whats → end_from at whats ≤ 65536
          → cons_option o (stated items) ≡ map statement_of whats ++ end_statement ∷ []
          → ((at' : ℕ) (whats' : List LineContent) → IsAt section at' (state_after (item ∷ before)) → AreSoundFrom at' whats' → end_from at' whats' ≤ 65536
          → stated items ≡ map statement_of whats' ++ end_statement ∷ [] → Passed section at' whats' items (item ∷ before))
          → Passed section at whats (item ∷ items) before
      go None whats b is sound small e rec =
          let same : state_after (item ∷ before) ≡ state_after before = ap (λ o. after_line item.line o (state_after before)) b in
          let more = rec at whats (subst (IsAt section at) (sym same) is) sound small e in
          record {
            last = subst (λ k. IsAt section (end_from at whats) (state_after k)) (sym (reverse_step item items before)) more.last;
            placed = subst (ArePlaced section at whats) (sym (head_none item items before b)) more.placed;
          }
      go (Some s) [] b is sound small e rec =
          let own : s ≡ end_statement = cc in
          let rest : stated items ≡ [] = cc in
          let quiet = quiet_lines items (item ∷ before) rest in
          let next : state_after (item ∷ before) ≡ next_state item.line end_statement (state_after before) = ap (λ o. after_line item.line o (state_after before)) b ∙ ap (λ t. next_state item.line t (state_after before)) own in
          let ends = at_end known section item.line at (state_after before) is small in
          record {
            last = subst (IsAt section at) (sym (ap state_after (reverse_step item items before) ∙ quiet.state ∙ next)) ends;
            placed = subst (ArePlaced section at []) (sym (head_some item items before s b ∙ ap (λ k. placed_statement item.line s (place_in s (state_after before)) ∷ k) quiet.none)) own;
          }
      go (Some s) (what ∷ whats) b is sound small e rec =
          let own : s ≡ statement_of what = cc in
          let rest : stated items ≡ map statement_of whats ++ end_statement ∷ [] = cc in
          let fits : at + size_of what ≤ 65536 = (let more = end_after (at + size_of what) whats in omega (arith, more, small)) in
          let one = step known section item.line at (state_after before) is what sound.0 fits in
          let next : state_after (item ∷ before) ≡ next_state item.line (statement_of what) (state_after before) = ap (λ o. after_line item.line o (state_after before)) b ∙ ap (λ t. next_state item.line t (state_after before)) own in
          let more = rec (at + size_of what) whats (subst (IsAt section (at + size_of what)) (sym next) one.next) sound.1 small rest in
          record {
            last = subst (λ k. IsAt section (end_from (at + size_of what) whats) (state_after k)) (sym (reverse_step item items before)) more.last;
            placed = subst (ArePlaced section at (what ∷ whats)) (sym (head_some item items before s b)) ((own, ap (λ t. place_in t (state_after before)) own ∙ one.place), more.placed);
          }

  -- ---- CSECT
  abbrev csect : List ℕ → Stmt
  csect name = statement name (codes "CSECT") []

  csect_next : (line : ℕ) (name : List ℕ) → symbol_name name ≡ Some section → IsAt section 0 (next_state line (csect name) state_at_start)
  unfolding next_state extent_of
  csect_next line name named =
      let role : role_in (csect name) ≡ Control = ap role_of csect_named in
      record {
        section_is = rw (role, named) refl;
        control_is = rw (role, named) refl;
        length_is = refl;
        others = λ other differs. refl;
        pool_is = rw role refl;
        pools_is = rw role refl;
        fault_is = rw (none role) refl;
      }
    where
      none : role_in (csect name) ≡ Control → statement_fault_in (csect name) state_at_start ≡ None
      none role = rw (role, named) refl

  pub record Begun (items before : List Item) (whats : List LineContent) : Type 0 where
    last : IsAt section (end_from 0 whats) (state_after (reverse items ++ before))
    first : PlacedStatement
    rest : List PlacedStatement
    is : statements_from before items ≡ first ∷ rest
    begins : first.stmt.operation ≡ codes "CSECT"
    placed : ArePlaced section 0 whats rest

  pub begun : (name : List ℕ) → symbol_name name ≡ Some section → (whats : List LineContent) → AreSoundFrom 0 whats → end_from 0 whats ≤ 65536 → (items before : List Item) → state_after before ≡ state_at_start
      → stated items ≡ statements_again name whats → Begun items before whats
  begun name named whats sound small [] before start e = absurd (cc)
  begun name named whats sound small (item ∷ items) before start e = go item.stmt refl e (λ start' e'. begun name named whats sound small items (item ∷ before) start' e')
    where
      go : (o : Option Stmt) → item.stmt ≡ o → cons_option o (stated items) ≡ statements_again name whats
          → (state_after (item ∷ before) ≡ state_at_start → stated items ≡ statements_again name whats → Begun items (item ∷ before) whats) → Begun (item ∷ items) before whats
      go None b e rec =
          let more = rec (ap (λ o. after_line item.line o (state_after before)) b ∙ start) e in
          record {
            last = subst (λ k. IsAt section (end_from 0 whats) (state_after k)) (sym (reverse_step item items before)) more.last;
            first = more.first;
            rest = more.rest;
            is = head_none item items before b ∙ more.is;
            begins = more.begins;
            placed = more.placed;
          }
      go (Some s) b e rec =
          let own : s ≡ csect name = cc in
          let rest : stated items ≡ map statement_of whats ++ end_statement ∷ [] = cc in
          let next : state_after (item ∷ before) ≡ next_state item.line (csect name) state_at_start =
          ap (λ o. after_line item.line o (state_after before)) b ∙ ap (λ t. next_state item.line t (state_after before)) own ∙ ap (next_state item.line (csect name)) start in
          let more = passed items (item ∷ before) 0 whats (subst (IsAt section 0) (sym next) (csect_next item.line name named)) sound small rest in
          record {
            last = subst (λ k. IsAt section (end_from 0 whats) (state_after k)) (sym (reverse_step item items before)) more.last;
            first = placed_statement item.line s (place_in s (state_after before));
            rest = statements_from (item ∷ before) items;
            is = head_some item items before s b;
            begins = ap (λ t. t.operation) own;
            placed = more.placed;
          }

-- ---- the second pass
record IsGood (whole : Whole) (s : PlacedStatement) : Type 0 where
  none : (bases : Bases) (number : ℕ) → second_fault whole bases number s ≡ None
  entry : bytes_eq s.stmt.operation (codes "END") ≡ true → s.stmt.operand ≡ []

no_literal_faults : (whole : Whole) (number : ℕ) (s : PlacedStatement) (parts : List (List ℕ)) → AllByRecursion IsNoLiteral parts → lowest (map (part_fault whole number s) parts) ≡ None
no_literal_faults whole number s [] h = refl
no_literal_faults whole number s (part ∷ parts) h = rw (h.0, no_literal_faults whole number s parts h.1) refl

faultless : (whole : Whole) (bases : Bases) (number : ℕ) (s : PlacedStatement) (o : Operation) → operation_of s ≡ Some o → operand_fault whole bases number s (Some o) ≡ None → second_fault whole bases number s ≡ None
unfolding second_fault
faultless whole bases number s o named none = ap (operand_fault whole bases number s) named ∙ none

data_line_is : (at : ℕ) (bytes : List ℕ) → 0 < length bytes → data_line at bytes ≡ line at (Data bytes) ∷ []
data_line_is at [] some = absurd (omega (arith, some))
data_line_is at (byte ∷ bytes) some = refl

pub lines_of : ℕ → List LineContent → List Line
lines_of at [] = []
lines_of at (what ∷ whats) = line at what ∷ lines_of (at + size_of what) whats

either_empty : (b : Bool) → cond b empty_section empty_section ≡ empty_section
either_empty true = refl
either_empty false = refl

module _ (known : Known) (section : List ℕ) (whole : Whole) (control : whole.control ≡ Some section) where
  within : is_control (Some section) whole.control ≡ true
  within = rw (control, same_section section) refl

  good : (number at : ℕ) (what : LineContent) → IsSoundAt at what → IsGood whole (placed_statement number (statement_of what) (place_of section at what))
  unfolding statement_of constant_copy
  good number at (Code i) sound =
      let s = placed_statement number (statement_of (Code i)) (place_of section at (Code i)) in
      record {
        none = λ bases number.
            faultless whole bases number s (operation.Machine i.op) (known.named i.op)
            (rw (instruction_read i (instruction_context whole bases s) sound.0, no_literal_faults whole number s (parts_in s.stmt) (no_literals i sound.0)) refl);
        entry = λ e.
            let same : mnemonic_of i.op ≡ codes "END" = (bytes_eq-Decides (mnemonic_of i.op) (codes "END")).0 e in
            let two : Some (operation.Machine i.op) ≡ Some (operation.Directive directive.End) = sym (known.named i.op) ∙ ap operation_named same ∙ end_named in
            absurd (cc);
      }
  good number at (Data bytes) sound =
      let s = placed_statement number (statement_of (Data bytes)) (place_of section at (Data bytes)) in
      record {
        none = λ bases number.
            faultless whole bases number s (operation.Directive directive.Dc) dc_named
            (rw (data_operand bytes sound.0, made_is whole (location_counter (Some section) at 1) bytes sound.0 sound.1) refl);
        entry = λ e. (let no : false ≡ true = e in absurd (cc));
      }
  good number at (Space n) sound =
      let s = placed_statement number (statement_of (Space n)) (place_of section at (Space n)) in
      record {
        none = λ bases number.
            faultless whole bases number s (operation.Directive directive.Ds) ds_named
            (rw (space_operand n, space_made n sound) refl);
        entry = λ e. (let no : false ≡ true = e in absurd (cc));
      }
    where
      space_made : (n : ℕ) → IsSoundAt at (Space n) → item_made whole true (location_counter (Some section) at 1) (codes "XL" ++ decimal n) ≡ Ok (copy_of_constant [] false)
      space_made n sound = rw (space_written n sound.0 sound.1) refl

  good_end : (s : PlacedStatement) → s.stmt ≡ end_statement → IsGood whole s
  unfolding entry_in
  good_end s e =
      record {
        none = λ bases number. faultless whole bases number s (operation.Directive directive.End) (ap (λ t. operation_named t.operation) e ∙ end_named) (rw e refl);
        entry = λ is. ap (λ t. t.operand) e;
      }

  good_csect : (s : PlacedStatement) → s.stmt.operation ≡ codes "CSECT" → IsGood whole s
  unfolding bases_in
  good_csect s e =
      record {
        none = λ bases number. faultless whole bases number s (operation.Directive directive.Csect) (ap operation_named e ∙ csect_named) refl;
        entry = λ is. (let no : false ≡ true = sym (ap (λ t. bytes_eq t (codes "END")) e) ∙ is in absurd (cc));
      }

  same_statement : (s : PlacedStatement) (stmt : Stmt) (place : Place) → s.stmt ≡ stmt → s.place ≡ place → placed_statement s.line stmt place ≡ s
  same_statement s stmt place e f = ap (λ t. placed_statement s.line t place) (sym e) ∙ ap (placed_statement s.line s.stmt) (sym f)

  all_good : (at : ℕ) (whats : List LineContent) (statements : List PlacedStatement) → AreSoundFrom at whats → ArePlaced section at whats statements → AllByRecursion (IsGood whole) statements
  unfolding ArePlaced
  all_good at [] [] sound placed = absurd placed
  all_good at [] (s ∷ []) sound placed = (good_end s placed, tt)
  all_good at [] (s ∷ other ∷ more) sound placed = absurd placed
  all_good at (what ∷ whats) [] sound placed = absurd placed
  all_good at (what ∷ whats) (s ∷ statements) sound placed = (
    subst (IsGood whole) (same_statement s (statement_of what) (place_of section at what) placed.0.0 placed.0.1) (good s.line at what sound.0),
    all_good (at + size_of what) whats statements sound.1 placed.1,
  )

  -- ---- their lines
  code_stands : (all : List PlacedStatement) (bases : Bases) (s : PlacedStatement) (o : Operation) (i : Instruction) (size : ℕ) → is_control s.place.section whole.control ≡ true → role_in s.stmt ≡ Machine size
      → operation_of s ≡ Some o → instruction_or_fault o (instruction_context whole bases s) s.stmt.operand ≡ Ok i → statement_standing whole all bases s ≡ standing (line s.place.offset (Code i) ∷ []) []
  unfolding statement_standing
  code_stands all bases s o i size inside role named made = rw (inside, role, named, made) refl

  storage_stands : (all : List PlacedStatement) (bases : Bases) (s : PlacedStatement) (is_ds : Bool) (item : List ℕ × ℕ) → is_control s.place.section whole.control ≡ true → role_in s.stmt ≡ Storage is_ds
      → placed_items s ≡ item ∷ [] → statement_standing whole all bases s ≡ join_sections (item_standing whole is_ds s item) empty_section
  unfolding statement_standing
  storage_stands all bases s is_ds item inside role items = rw (inside, role) (ap (items_standing whole is_ds s) items)

  data_stands : (at : ℕ) (counter : Option Value) (bytes : List ℕ) → EachIsByte bytes → 0 < length bytes
      → data_standing whole counter (codes "X'" ++ flat_map hex_pair bytes ++ codes "'") at ≡ standing (line at (Data bytes) ∷ []) []
  data_stands at counter bytes are some =
      let many = hex_length bytes in
      let written = constant_is (flat_map hex_pair bytes) (hex_plain bytes are) (omega (arith, many, some)) in
      ap (λ k. constant_standing at k (item_made whole false counter (codes "X'" ++ flat_map hex_pair bytes ++ codes "'"))) written
      ∙ ap (constant_standing at (Ok (constant 1 Hexadecimal None (Some (flat_map hex_pair bytes))))) (made_is whole counter bytes are some)
      ∙ ap (λ k. standing (data_line at k) []) (append-nil bytes) ∙ ap (λ k. standing k []) (data_line_is at bytes some)

  space_stands : (at n : ℕ) → 1 ≤ n → n ≤ 65535 → space_standing at (constant_in true (codes "XL" ++ decimal n)) ≡ standing (line at (Space n) ∷ []) []
  space_stands at n some most =
      let filled : (n == 0) ≡ false = grind (arith, nat_tests, some) in
      ap (space_standing at) (space_written n some most) ∙ ap (λ k. standing (space_line at k) []) (space_size n) ∙ rw filled refl

  one_stands : (all : List PlacedStatement) (bases : Bases) (number at : ℕ) (what : LineContent) → IsSoundAt at what
      → statement_standing whole all bases (placed_statement number (statement_of what) (place_of section at what)) ≡ standing (line at what ∷ []) []
  unfolding statement_of
  one_stands all bases number at (Code i) sound =
      let s = placed_statement number (statement_of (Code i)) (place_of section at (Code i)) in
      code_stands all bases s (operation.Machine i.op) i (length_of i.op) within (ap role_of (known.named i.op)) (known.named i.op) (instruction_read i (instruction_context whole bases s) sound.0)
  one_stands all bases number at (Data bytes) sound =
      let s = placed_statement number (statement_of (Data bytes)) (place_of section at (Data bytes)) in
      let operand = codes "X'" ++ flat_map hex_pair bytes ++ codes "'" in
      storage_stands all bases s false (operand, at) within (ap role_of dc_named) (ap (λ k. zip k (at ∷ [])) (data_operand bytes sound.0))
      ∙ ap (λ k. join_sections k empty_section) (data_stands at (location_counter (Some section) at 1) bytes sound.0 sound.1)
  one_stands all bases number at (Space n) sound =
      let s = placed_statement number (statement_of (Space n)) (place_of section at (Space n)) in
      storage_stands all bases s true (codes "XL" ++ decimal n, at) within (ap role_of ds_named) (ap (λ k. zip k (at ∷ [])) (space_operand n))
      ∙ ap (λ k. join_sections k empty_section) (space_stands at n sound.0 sound.1)

  nothing_stands : (all : List PlacedStatement) (bases : Bases) (s : PlacedStatement) (o : Operation) → operation_named s.stmt.operation ≡ Some o → role_standing whole all bases s (role_of (Some o)) ≡ empty_section
      → statement_standing whole all bases s ≡ empty_section
  unfolding statement_standing
  nothing_stands all bases s o named none =
      ap (λ k. cond (is_control s.place.section whole.control) (role_standing whole all bases s (role_of k)) empty_section) named
      ∙ ap (λ k. cond (is_control s.place.section whole.control) k empty_section) none ∙ either_empty (is_control s.place.section whole.control)

  all_stand : (all : List PlacedStatement) → last_pool whole ≡ [] → (bases : Bases) (at : ℕ) (whats : List LineContent) (statements : List PlacedStatement) → AreSoundFrom at whats
      → ArePlaced section at whats statements → standing_from whole all bases statements ≡ standing (lines_of at whats) []
  unfolding ArePlaced lines_of
  all_stand all pool bases at [] [] sound placed = absurd placed
  all_stand all pool bases at [] (s ∷ []) sound placed =
      rw (nothing_stands all bases s (operation.Directive directive.End) (ap (λ t. operation_named t.operation) placed ∙ end_named) refl, pool) refl
  all_stand all pool bases at [] (s ∷ other ∷ more) sound placed = absurd placed
  all_stand all pool bases at (what ∷ whats) [] sound placed = absurd placed
  all_stand all pool bases at (what ∷ whats) (s ∷ statements) sound placed =
      let own : statement_standing whole all bases s ≡ standing (line at what ∷ []) [] =
      subst (λ k. statement_standing whole all bases k ≡ standing (line at what ∷ []) []) (same_statement s (statement_of what) (place_of section at what) placed.0.0 placed.0.1)
      (one_stands all bases s.line at what sound.0) in
      let more = all_stand all pool (bases_after whole bases s) (at + size_of what) whats statements sound.1 placed.1 in
      rw (own, more) refl

-- ---- faults and entry
abbrev are_none : (whole : Whole) → List PlacedStatement → Type 0
are_none whole statements = AllByRecursion (IsGood whole) statements

onto : (whole : Whole) (some more : List PlacedStatement) → are_none whole some → are_none whole more → are_none whole (some ++ more)
onto whole [] more h k = k
onto whole (s ∷ some) more h k = (h.0, onto whole some more h.1 k)

turned : (whole : Whole) (some : List PlacedStatement) → are_none whole some → are_none whole (reverse some)
turned whole [] h = tt
turned whole (s ∷ some) h = subst (are_none whole) (sym (reverse_onto some s [])) (onto whole (reverse some) (s ∷ []) (turned whole some h.1) (h.0, tt))

none_after : (whole : Whole) (statements : List PlacedStatement) → are_none whole statements → second_faults_after whole statements ≡ []
none_after whole [] h = refl
none_after whole (s ∷ before) h = rw (h.0.none (bases_after_all whole before) (length before)) (none_after whole before h.1)

found_entry : (whole : Whole) (statements : List PlacedStatement) → are_none whole statements
    → option_map_or (entry_by whole) (find (λ s. bytes_eq s.stmt.operation (codes "END")) statements) 0 ≡ 0
unfolding entry_in
found_entry whole [] h = refl
found_entry whole (s ∷ statements) h = go (bytes_eq s.stmt.operation (codes "END")) refl (found_entry whole statements h.1)
  where
    go : (b : Bool) → bytes_eq s.stmt.operation (codes "END") ≡ b → option_map_or (entry_by whole) (find (λ s. bytes_eq s.stmt.operation (codes "END")) statements) 0 ≡ 0
        → option_map_or (entry_by whole) (cond b (Some s) (find (λ s. bytes_eq s.stmt.operation (codes "END")) statements)) 0 ≡ 0
    go true e more = rw (h.0.entry e) refl
    go false e more = more

-- ---- the text of lines with gaps as spaces
zero_of : (g : ℕ) → (g == 0) ≡ true → g ≡ 0
zero_of g e = grind (arith, nat_tests, e)

text_spaced : (from size g : ℕ) (whats : List LineContent) → text_from from (lines_of from (space g ++ whats)) size ≡ replicate g 0 ++ text_from (from + g) (lines_of (from + g) whats) size
unfolding lines_of
text_spaced from size g whats = go (g == 0) refl
  where
    go : (b : Bool) → (g == 0) ≡ b → text_from from (lines_of from (cond b [] (Space g ∷ []) ++ whats)) size ≡ replicate g 0 ++ text_from (from + g) (lines_of (from + g) whats) size
    go true e =
        let same : from + 0 ≡ from = omega arith in
        subst (λ n. text_from from (lines_of from whats) size ≡ replicate n 0 ++ text_from (from + n) (lines_of (from + n) whats) size) (sym (zero_of g e)) (rw same refl)
    go false e = (let none : from - from ≡ 0 = omega arith in rw none refl)

pub filled_text : (from : ℕ) (ls : List Line) (size : ℕ) → AreApart from ls size → text_from from (lines_of from (filled from ls size)) size ≡ text_from from ls size
unfolding lines_of
filled_text from [] size apart =
    let none : size - (from + (size - from)) ≡ 0 = omega (arith, apart) in
    ap (λ k. text_from from (lines_of from k) size) (sym (append-nil (space (size - from)))) ∙ text_spaced from size (size - from) [] ∙ rw none (append-nil (replicate (size - from) 0))
filled_text from (l ∷ ls) size apart =
    let at : from + (l.at - from) ≡ l.at = (let first = apart.0 in omega (arith, first)) in
    let none : l.at - l.at ≡ 0 = omega arith in
    let more = filled_text (offset_after l) ls size apart.1 in
    text_spaced from size (l.at - from) (l.what ∷ filled (offset_after l) ls size) ∙ ap (λ n. replicate (l.at - from) 0 ++ text_from n (lines_of n (l.what ∷ filled (offset_after l) ls size)) size) at
    ∙ ap (λ n. replicate (l.at - from) 0 ++ (replicate n 0 ++ (bytes_of l.what ++ text_from (offset_after l) (lines_of (offset_after l) (filled (offset_after l) ls size)) size))) none
    ∙ ap (λ k. replicate (l.at - from) 0 ++ (bytes_of l.what ++ k)) more

end_spaced : (from g : ℕ) (whats : List LineContent) → end_from from (space g ++ whats) ≡ end_from (from + g) whats
end_spaced from g whats = go (g == 0) refl
  where
    go : (b : Bool) → (g == 0) ≡ b → end_from from (cond b [] (Space g ∷ []) ++ whats) ≡ end_from (from + g) whats
    go true e = (let same : from ≡ from + g = (let zero = zero_of g e in omega (arith, zero)) in ap (λ n. end_from n whats) same)
    go false e = refl

pub filled_end : (from : ℕ) (ls : List Line) (size : ℕ) → AreApart from ls size → end_from from (filled from ls size) ≡ size
filled_end from [] size apart =
    ap (end_from from) (sym (append-nil (space (size - from)))) ∙ end_spaced from (size - from) [] ∙ omega (arith, apart)
filled_end from (l ∷ ls) size apart =
    let at : from + (l.at - from) ≡ l.at = (let first = apart.0 in omega (arith, first)) in
    end_spaced from (l.at - from) (l.what ∷ filled (offset_after l) ls size) ∙ ap (λ n. end_from (n + size_of l.what) (filled (offset_after l) ls size)) at ∙ filled_end (offset_after l) ls size apart.1

-- ---- a line that can be written
abbrev pub IsRight : Line → LineContent → Type 0
IsRight l (Code i) = IsWellFormed i × (l.at % 2 ≡ 0)
IsRight l (Data bytes) = EachIsByte bytes × (0 < length bytes)
IsRight l (Space n) = 1 ≤ n

-- ---- no space is longer than 65,535 bytes
abbrev pub IsShort : LineContent → Type 0
IsShort (Space n) = n ≤ 65535
IsShort what = ⊤

abbrev pub HasBytes : LineContent → Type 0
HasBytes what = 1 ≤ size_of what

space_short : (at n : ℕ) (whats : List LineContent) → AllByRecursion HasBytes whats → end_from (at + n) whats ≤ 65536 → (at ≡ 0 → Space n ∷ whats ≢ Space 65536 ∷ []) → n ≤ 65535
space_short at n [] some ends never = ⊎_elim (λ short. short.1) (λ long. absurd (never (omega (arith, long.1, ends)) (ap (λ k. Space k ∷ []) (let all : n ≡ 65536 = omega (arith, long.1, ends) in all)))) (leb_tells n 65535)
space_short at n (what ∷ whats) some ends never = (let more = end_after (at + n + size_of what) whats in let own = some.0 in omega (arith, more, own, ends))

pub all_short : (at : ℕ) (whats : List LineContent) → AllByRecursion HasBytes whats → end_from at whats ≤ 65536 → (at ≡ 0 → whats ≢ Space 65536 ∷ []) → AllByRecursion IsShort whats
all_short at [] some ends never = tt
all_short at (Code i ∷ whats) some ends never =
    (tt, all_short (at + size_of (Code i)) whats some.1 ends (λ zero. absurd (let first = some.0 in omega (arith, first, zero))))
all_short at (Data bytes ∷ whats) some ends never =
    (tt, all_short (at + size_of (Data bytes)) whats some.1 ends (λ zero. absurd (let first = some.0 in omega (arith, first, zero))))
all_short at (Space n ∷ whats) some ends never =
    (space_short at n whats some.1 ends never, all_short (at + n) whats some.1 ends (λ zero. absurd (let first = some.0 in omega (arith, first, zero))))

space_has : (g : ℕ) → AllByRecursion HasBytes (space g)
space_has g = go (g == 0) refl
  where
    go : (b : Bool) → (g == 0) ≡ b → AllByRecursion HasBytes (cond b [] (Space g ∷ []))
    go true e = tt
    go false e = (let some : 1 ≤ g = grind (arith, nat_tests, e) in (some, tt))

pub filled_has : (from : ℕ) (ls : List Line) (size : ℕ) → AllByRecursion (λ l. HasBytes l.what) ls → AllByRecursion HasBytes (filled from ls size)
filled_has from [] size h = space_has (size - from)
filled_has from (l ∷ ls) size h = all_joined HasBytes (space (l.at - from)) (l.what ∷ filled (offset_after l) ls size) (space_has (l.at - from)) (h.0, filled_has (offset_after l) ls size h.1)

long_format : (f : Format) → 1 ≤ length_of_format f
long_format format.Rr = omega arith
long_format format.Rx = omega arith
long_format format.Rs = omega arith
long_format format.Si = omega arith
long_format format.Ss = omega arith
long_format format.Ss2 = omega arith

right_has : Known → (l : Line) (what : LineContent) → IsRight l what → HasBytes what
right_has known l (Code i) right = (let size = known.sizes i right.0 in let some = long_format (format_of i.op) in omega (arith, size, some))
right_has known l (Data bytes) right = right.1
right_has known l (Space n) right = right

pub all_have : Known → (ls : List Line) → AllByRecursion (λ l. IsRight l l.what) ls → AllByRecursion (λ l. HasBytes l.what) ls
all_have known [] h = tt
all_have known (l ∷ ls) h = (right_has known l l.what h.0, all_have known ls h.1)

spaced_sound : (from g : ℕ) (whats : List LineContent) → AllByRecursion IsShort (space g ++ whats) → (AllByRecursion IsShort whats → AreSoundFrom (from + g) whats) → AreSoundFrom from (space g ++ whats)
spaced_sound from g whats short more = go (g == 0) refl short
  where
    go : (b : Bool) → (g == 0) ≡ b → AllByRecursion IsShort (cond b [] (Space g ∷ []) ++ whats) → AreSoundFrom from (cond b [] (Space g ∷ []) ++ whats)
    go true e short = (let same : from + g ≡ from = (let zero = zero_of g e in omega (arith, zero)) in subst (λ n. AreSoundFrom n whats) same (more short))
    go false e short = (let some : 1 ≤ g = grind (arith, nat_tests, e) in ((some, short.0), more short.1))

right_sound : (l : Line) (what : LineContent) → IsRight l what → IsShort what → IsSoundAt l.at what
right_sound l (Code i) right short = right
right_sound l (Data bytes) right short = right
right_sound l (Space n) right short = (right, short)

pub filled_sound : (from : ℕ) (ls : List Line) (size : ℕ) → AreApart from ls size → AllByRecursion (λ l. IsRight l l.what) ls → AllByRecursion IsShort (filled from ls size) → AreSoundFrom from (filled from ls size)
filled_sound from [] size apart right short =
    subst (AreSoundFrom from) (append-nil (space (size - from))) (spaced_sound from (size - from) [] (subst (AllByRecursion IsShort) (sym (append-nil (space (size - from)))) short) (λ none. tt))
filled_sound from (l ∷ ls) size apart right short =
    let at : l.at ≡ from + (l.at - from) = (let first = apart.0 in omega (arith, first)) in
    spaced_sound from (l.at - from) (l.what ∷ filled (offset_after l) ls size) short
    (λ rest. subst (λ n. AreSoundFrom n (l.what ∷ filled (offset_after l) ls size)) at (right_sound l l.what right.0 rest.0, filled_sound (offset_after l) ls size apart.1 right.1 rest.1))

-- ---- the assembly
pub whats_of : (at : ℕ) (whats : List LineContent) → map (λ l. l.what) (lines_of at whats) ≡ whats
unfolding lines_of
whats_of at [] = refl
whats_of at (what ∷ whats) = ap (λ k. what ∷ k) (whats_of (at + size_of what) whats)

none_listed : (faults : List LineFault) → slice_get faults 0 ≡ None → faults ≡ []
none_listed [] e = refl
none_listed (first ∷ more) e = absurd (cc)

pub record IsMadeOf (again : Source) (whats : List LineContent) (size : ℕ) : Type 0 where
  pub accepted : assembly_of again ≡ Ok (assembly_made_of again)
  pub parts : section_of again ≡ assembled_parts (lines_of 0 whats) size [] 0 80

pub made_again : (known : Known) (again : Source) (name section : List ℕ) (whats : List LineContent) (size : ℕ) → symbol_name name ≡ Some section → stated again.items ≡ statements_again name whats → AreSoundFrom 0 whats
    → end_from 0 whats ≡ size → size ≤ 65536 → IsMadeOf again whats size
unfolding assembly_of assembly_faults second_faults_of section_of standing_of extent_of
made_again known again name section whats size named e sound ends small =
    let passes = begun known section name named whats sound (omega (arith, ends, small)) again.items [] refl e in
    let is : IsAt section size (final_state again) = subst (λ k. IsAt section size (state_after k)) (append-nil (reverse again.items)) (subst (λ n. IsAt section n (state_after (reverse again.items ++ []))) ends passes.last) in
    let whole = whole_of again in
    let all = statements_of again in
    let control : whole.control ≡ Some section = is.control_is in
    let split : all ≡ passes.first ∷ passes.rest = statements_are again ∙ passes.is in
    let good : are_none whole all = subst (are_none whole) (sym split) (good_csect known section whole control passes.first passes.begins, all_good known section whole control 0 whats passes.rest sound passes.placed) in
    let pool : last_pool whole ≡ [] = pool_is section size (final_state again) is in
    let first : statement_standing whole all none_in_use passes.first ≡ empty_section =
    nothing_stands known section whole control all none_in_use passes.first (operation.Directive directive.Csect) (ap operation_named passes.begins ∙ csect_named) refl in
    let rest = all_stand known section whole control all pool (bases_after whole none_in_use passes.first) 0 whats passes.rest sound passes.placed in
    let stands : standing_from whole all none_in_use all ≡ standing (lines_of 0 whats) [] = ap (standing_from whole all none_in_use) split ∙ rw (first, rest) refl in
    let sized : section_size again ≡ size = size_is section size (final_state again) is small in
    let entry : option_map_or (entry_by whole) (end_statement_of all) 0 ≡ 0 = found_entry whole all good in
    let storage : storage_length (final_state again) ≡ 0 = storage_is section size (final_state again) is in
    let places : place_faults again ≡ [] = none_listed (place_faults again) (first_of_faults (reverse again.items) ∙ is.fault_is) in
    let second : second_faults_after whole (reverse all) ≡ [] = none_after whole (reverse all) (turned whole all good) in
    let short : nat_le size 65536 ≡ true = grind (arith, nat_tests, small) in
    record {
      accepted = rw (places, second, sized, short) refl;
      parts = rw (stands, sized, entry, storage) refl;
    }
  where
    pool_is : (section : List ℕ) (size : ℕ) (state : PassState) → IsAt section size state → unwrap_or (slice_get (all_pools state) (length (all_pools state) - 1)) [] ≡ []
    pool_is section size state is = rw (is.pools_is, is.pool_is) refl

    size_is : (section : List ℕ) (size : ℕ) (state : PassState) → IsAt section size state → size ≤ 65536 → option_map_or (λ control. control.length) (control_section state) 0 ≡ size
    size_is section size state is small = (let capped : cap size ≡ size = capped_same size (omega (arith, small)) in rw (is.control_is, is.pool_is, is.length_is, capped) refl)

    storage_is : (section : List ℕ) (size : ℕ) (state : PassState) → IsAt section size state → storage_length state ≡ 0
    storage_is section size state is = by_name (symbol_name (codes "DFHEISTG"))
      where
        by_name : (o : Option (List ℕ)) → option_map_or (λ name. cond (stands_in name state.control) 0 (state.lengths name)) o 0 ≡ 0
        by_name None = refl
        by_name (Some name) = rw is.control_is (by_same (is_same name section) refl)
          where
            by_same : (b : Bool) → is_same name section ≡ b → cond b 0 (state.lengths name) ≡ 0
            by_same true e = refl
            by_same false e = is.others name e
