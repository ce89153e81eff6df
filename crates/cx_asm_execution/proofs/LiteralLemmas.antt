-- Literals: in a pool, in the statement or the end of the section that has the pool, and among the resolved lines.
use Rattle.std.specs.Prelude.{Result, codes, pos, reverse, slice_get, option_and_then, option_map, unwrap_or}
use Rattle.std.proofs.Math.IntN.{+ℤ_idr}
use Rattle.std.proofs.Common.{◌≡◌, ◌⊎◌, inl, inr, ◌≤◌, ◌<◌, ℕ, ◌+◌, ◌-◌, Bool, true, false, cond, Option, Some, None, Ok, List, [], ◌∷◌, ◌++◌, length, refl, sym, ◌∙◌, ap, subst, ⊎_elim, arith}
use Rattle.std.specs.List.{cons_option}
use Rattle.std.specs.Map.{lookup}
use Rattle.std.specs.Option.{ok_or}
use Rattle.std.specs.Str.{bytes_eq}
use Rattle.std.proofs.lemmas.Bool.Decides.{leb_tells}
use Rattle.std.proofs.lemmas.List.{append_assoc, append-nil, reverse-append, reverse-reverse}
use Rattle.std.proofs.lemmas.Option.{slice_get_past}
use Rattle.std.proofs.lemmas.Slice.Eq.{bytes_eq-Decides}
use Rattle.cx_code.specs.declared.disassembly.Line.{Line}
use Rattle.cx_code.specs.declared.disassembly.LineContent.TheVariants.{Data}
use Rattle.cx_source.specs.declared.source.Item.{Item}
use Rattle.cx_source.specs.declared.source.Source.{Source}
use Rattle.cx_source.specs.declared.source.Stmt.{Stmt}
use Rattle.cx_asm_expressions.specs.Digits.{bound}
use Rattle.cx_asm_expressions.specs.Items.{constant_in}
use Rattle.cx_asm_expressions.specs.declared.faults.FaultKind.{FaultKind}
use Rattle.cx_asm_expressions.specs.declared.faults.FaultKind.TheVariants.{BadOperand}
use Rattle.cx_asm_expressions.specs.declared.values.Value.{Value}
use Rattle.cx_asm_pools.specs.Pools.{PlacedLiterals, OpenLiterals, cap, literal_text, closed_pool}
use Rattle.cx_asm_pools.specs.declared.closed.Literal.{Literal}
use Rattle.cx_asm_pass1.specs.Facts.Apart.{in_control}
use Rattle.cx_asm_pass1.specs.Facts.StatementExtents.{capped_same}
use Rattle.cx_asm_pass1.specs.Given.{location_counter, place_value}
use Rattle.cx_asm_pass1.specs.PassState.{PassState, next_state, after_line, is_control, state_after, extent_in, name_in, place_in, pools_after, role_in, section_fault}
use Rattle.cx_asm_pass1.specs.Locations.{last_pool_extent, final_state}
use Rattle.cx_asm_pass1.specs.declared.roles.Role.{Role}
use Rattle.cx_asm_pass1.specs.declared.roles.Role.TheVariants as role
use Rattle.cx_asm_operands.specs.Bases.{Bases, none_in_use}
use Rattle.cx_asm_operands.specs.Addresses.{implied_address}
use Rattle.cx_asm_operands.specs.Context.{Context}
use Rattle.cx_asm_operands.specs.Forms.{literal_in}
use Rattle.cx_asm_operands.specs.Checking.{both_or_lower_fault, then_check}
use Rattle.cx_asm_operands.specs.Storage.{indexed_in, operand, operand_in}
use Rattle.cx_asm_operands.specs.declared.addresses.Address.{Address}
use Rattle.cx_asm_image.specs.Resolved.{AreApart, offset_after}
use Rattle.cx_asm_pass2.specs.SecondFaults.{bases_after}
use Rattle.cx_asm_pass2.specs.Statements.{PlacedStatement, placed_statement, statements_of}
use Rattle.cx_asm_pass1.specs.Layout.{item_length}
use Rattle.cx_asm_pass2.specs.Whole.{Whole, literal_of, literal_place, pool_of, whole_of}
use Rattle.cx_asm.specs.Assembly.{AssemblyParts, assembly_of, section_of, control_section_size, standing_of}
use Rattle.cx_asm.specs.Resolving.{Standing, data_line, data_standing, counter_at, join_sections, last_pool, line, pool_standing, standing, standing_from, statement_standing}
use Rattle.cx_asm_laws.specs.Facts.Lines.{control_same, fault_kept, own_sound, place_for, reverse_step, section_sound, statements_are, statements_from}
use Rattle.cx_asm_execution.proofs.Arguments.{OperandsAddress}
use Rattle.cx_asm_execution.specs.Laws.Loaded.{IsUnrelocated}
use Rattle.cx_asm_execution.proofs.Literals.{HasBytes, HasInstruction, LiteralsStand, StandsInSection}
use Rattle.cx_asm_execution.proofs.Resolved.{is_instruction_role}
use Rattle.cx_asm_execution.proofs.Stores.{context_of}
use Rattle.cx_asm_execution.proofs.ArgumentLemmas.{both_ok}
use Rattle.cx_asm_execution.proofs.HeldLemmas.{HasWord, HaveWords, IsHeld, all_back, all_front, all_held, both_have, data_held, pool_held, statement_held}
use Rattle.cx_asm_execution.proofs.StandingLemmas.{accepted}
use Rattle.cx_asm_execution.proofs.TogetherLemmas.{length_joined}
use Rattle.cx_asm_execution.proofs.WordLemmas.{lies_at}

-- ---- a line that is not raised: each word that is raised is a different line's
pub record HasOwn (s : Standing) (mine : Line) : Type 0 where
  pub front : List Line
  pub back : List Line
  pub is : s.lines ≡ front ++ mine ∷ back
  pub words : HaveWords s.relocs (front ++ back)

own_left : (one other : Standing) (mine : Line) → HasOwn one mine → IsHeld other → HasOwn (join_sections one other) mine
own_left one other mine o held =
    record {
      front = o.front;
      back = o.back ++ other.lines;
      is = ap (λ k. k ++ other.lines) o.is ∙ append_assoc o.front (mine ∷ o.back) other.lines;
      words =
          subst (HaveWords (one.relocs ++ other.relocs)) (append_assoc o.front o.back other.lines)
          (both_have one.relocs other.relocs ((o.front ++ o.back) ++ other.lines) (all_front one.relocs (o.front ++ o.back) other.lines o.words) (all_back other.relocs (o.front ++ o.back) other.lines held));
    }

own_right : (one other : Standing) (mine : Line) → IsHeld one → HasOwn other mine → HasOwn (join_sections one other) mine
own_right one other mine held o =
    record {
      front = one.lines ++ o.front;
      back = o.back;
      is = ap (λ k. one.lines ++ k) o.is ∙ sym (append_assoc one.lines o.front (mine ∷ o.back));
      words =
          subst (HaveWords (one.relocs ++ other.relocs)) (sym (append_assoc one.lines o.front o.back))
          (both_have one.relocs other.relocs (one.lines ++ (o.front ++ o.back)) (all_front one.relocs one.lines (o.front ++ o.back) held) (all_back other.relocs one.lines (o.front ++ o.back) o.words));
    }

-- ---- lines that don't overlap
ends : (from : ℕ) (lines : List Line) (size : ℕ) → AreApart from lines size → from ≤ size
ends from [] size apart = apart
ends from (l ∷ lines) size apart = (let more = ends (offset_after l) lines size apart.1 in let first = apart.0 in omega (arith, more, first))

begins : (from : ℕ) (front : List Line) (mine : Line) (back : List Line) (size : ℕ) → AreApart from (front ++ mine ∷ back) size → (from ≤ mine.at) × (offset_after mine ≤ size)
begins from [] mine back size apart = (apart.0, ends (offset_after mine) back size apart.1)
begins from (l ∷ front) mine back size apart =
    let more = begins (offset_after l) front mine back size apart.1 in
    let first = apart.0 in
    let rest = more.0 in (omega (arith, rest, first), more.1)

word_after : (from : ℕ) (lines : List Line) (size r : ℕ) → AreApart from lines size → HasWord r lines → from ≤ r
unfolding HasWord
word_after from [] size r apart h = absurd h
word_after from (l ∷ lines) size r apart (inl h) = (let at = h.begins in let first = apart.0 in omega (arith, at, first))
word_after from (l ∷ lines) size r apart (inr h) = (let rest = word_after (offset_after l) lines size r apart.1 h in let first = apart.0 in omega (arith, rest, first))

beside : (from : ℕ) (front : List Line) (mine : Line) (back : List Line) (size r : ℕ) → AreApart from (front ++ mine ∷ back) size → HasWord r (front ++ back)
    → (r + 4 ≤ mine.at) ⊎ (offset_after mine ≤ r)
unfolding HasWord
beside from [] mine back size r apart h = inr (word_after (offset_after mine) back size r apart.1 h)
beside from (l ∷ front) mine back size r apart (inl h) =
    (let after = (begins (offset_after l) front mine back size apart.1).0 in let last = h.ends in inl (omega (arith, after, last)))
beside from (l ∷ front) mine back size r apart (inr h) = beside (offset_after l) front mine back size r apart.1 h

own_unraised : (front : List Line) (mine : Line) (back : List Line) (size : ℕ) (relocs : List ℕ) → AreApart 0 (front ++ mine ∷ back) size → HaveWords relocs (front ++ back) → IsUnrelocated relocs mine
own_unraised front mine back size [] apart words = tt
own_unraised front mine back size (r ∷ relocs) apart words = (beside 0 front mine back size r apart words.0, own_unraised front mine back size relocs apart words.1)

-- ---- a literal of a pool
constant_own : (whole : Whole) (counter : Option Value) (text : List ℕ) (at byte : ℕ) (bytes : List ℕ) → HasBytes whole text (byte ∷ bytes)
    → HasOwn (data_standing whole counter text at) (line at (Data (byte ∷ bytes)))
constant_own whole counter text at byte bytes is =
    let same : standing (data_line at (byte ∷ bytes)) [] ≡ data_standing whole counter text at =
    rw (is.everywhere counter, is.written) (ap (λ k. standing (data_line at k) []) (sym is.all)) in
    subst (λ s. HasOwn s (line at (Data (byte ∷ bytes)))) same (record { front = []; back = []; is = refl; words = tt })

pool_own : (whole : Whole) (all : List PlacedStatement) (pool : PlacedLiterals) (text : List ℕ) (literal : Literal) (byte : ℕ) (bytes : List ℕ) → HasBytes whole text (byte ∷ bytes)
    → lookup (bytes_eq text) pool ≡ Some literal → HasOwn (pool_standing whole all pool) (line literal.offset (Data (byte ∷ bytes)))
pool_own whole all [] text literal byte bytes is e = absurd (cc)
pool_own whole all (e ∷ pool) text literal byte bytes is found = go (bytes_eq text e.0) refl (λ more. pool_own whole all pool text literal byte bytes is more) found
  where
    go : (b : Bool) → bytes_eq text e.0 ≡ b → (lookup (bytes_eq text) pool ≡ Some literal → HasOwn (pool_standing whole all pool) (line literal.offset (Data (byte ∷ bytes)))) → cond b (Some e.1) (lookup (bytes_eq text) pool) ≡ Some literal
        → HasOwn (pool_standing whole all (e ∷ pool)) (line literal.offset (Data (byte ∷ bytes)))
    go true same more found =
        let own : text ≡ e.0 = (bytes_eq-Decides text e.0).0 same in
        let place : e.1 ≡ literal = cc in
        own_left (data_standing whole (counter_at all e.1.user) e.0 e.1.offset) (pool_standing whole all pool) (line literal.offset (Data (byte ∷ bytes)))
        (subst (λ l. HasOwn (data_standing whole (counter_at all e.1.user) e.0 e.1.offset) (line l.offset (Data (byte ∷ bytes)))) place
        (subst (λ t. HasOwn (data_standing whole (counter_at all e.1.user) t e.1.offset) (line e.1.offset (Data (byte ∷ bytes)))) own
        (constant_own whole (counter_at all e.1.user) text e.1.offset byte bytes is)))
        (pool_held whole all pool)
    go false same more found =
        own_right (data_standing whole (counter_at all e.1.user) e.0 e.1.offset) (pool_standing whole all pool) (line literal.offset (Data (byte ∷ bytes)))
        (data_held whole (counter_at all e.1.user) e.0 e.1.offset) (more found)

-- ---- statements in the control section
unless_control : (b : Bool) → cond b None (Some BadOperand) ≡ None → b ≡ true
unless_control true e = refl
unless_control false e = absurd (cc)

instruction_within : (r : Role) (name section control : Option (List ℕ)) → is_instruction_role r ≡ true → section_fault r name section control ≡ None → is_control section control ≡ true
instruction_within (role.Instruction size) name section control is e = unless_control (is_control section control) e
instruction_within role.Pool name section control is e = absurd (cc)
instruction_within role.Unknown name section control is e = absurd (cc)
instruction_within role.Control name section control is e = absurd (cc)
instruction_within role.Dummy name section control is e = absurd (cc)
instruction_within role.Equate name section control is e = absurd (cc)
instruction_within (role.Storage is_ds) name section control is e = absurd (cc)
instruction_within role.Registers name section control is e = absurd (cc)
instruction_within role.Member name section control is e = absurd (cc)
instruction_within role.Nothing name section control is e = absurd (cc)

pool_within : (r : Role) (name section control : Option (List ℕ)) → r ≡ role.Pool → section_fault r name section control ≡ None → is_control section control ≡ true
pool_within r name section control is e = unless_control (is_control section control) (subst (λ k. section_fault k name section control ≡ None) is e)

-- of an accepted source's lines, `more` the ones after it, the latest first
own_section : (line : ℕ) (s : Stmt) (before more : List Item) (item : Item) → item.line ≡ line → item.stmt ≡ Some s → (state_after (more ++ (item ∷ before))).fault ≡ None
    → section_fault (role_in s) (name_in s) (state_after before).section (state_after before).control ≡ None
own_section line s before more item numbered begins sound =
    let state = state_after before in
    let here : (after_line item.line item.stmt state).fault ≡ None = fault_kept more (item ∷ before) sound in
    section_sound s state (own_sound item.line s state (subst (λ o. (after_line item.line o state).fault ≡ None) begins here))

-- ---- the statement that has a closed pool
only_pools : (r : Role) (offset : ℕ) (pool : OpenLiterals) (pools : List PlacedLiterals) → (r ≡ role.Pool) ⊎ (pools_after r offset pool pools ≡ pools)
only_pools role.Pool offset pool pools = inl refl
only_pools (role.Instruction size) offset pool pools = inr refl
only_pools role.Unknown offset pool pools = inr refl
only_pools role.Control offset pool pools = inr refl
only_pools role.Dummy offset pool pools = inr refl
only_pools role.Equate offset pool pools = inr refl
only_pools (role.Storage is_ds) offset pool pools = inr refl
only_pools role.Registers offset pool pools = inr refl
only_pools role.Member offset pool pools = inr refl
only_pools role.Nothing offset pool pools = inr refl

-- where a statement makes the number of pools greater than one that it wasn't greater than, it closes that one
record Closes (s : Stmt) (state : PassState) (p : ℕ) : Type 0 where
  role : role_in s ≡ role.Pool
  number : length state.pools ≡ p

closes : (line : ℕ) (s : Stmt) (state : PassState) (p : ℕ) → length state.pools ≤ p → p < length (next_state line s state).pools → Closes s state p
unfolding next_state
closes line s state p low high = go (only_pools (role_in s) (extent_in s state).offset state.pool state.pools)
  where
    go : (role_in s ≡ role.Pool) ⊎ (pools_after (role_in s) (extent_in s state).offset state.pool state.pools ≡ state.pools) → Closes s state p
    go (inl is) =
        let more : p < length (state.pools ++ closed_pool (cap (extent_in s state).offset) state.pool ∷ []) =
        subst (λ r. p < length (pools_after r (extent_in s state).offset state.pool state.pools)) is high in
        let one = length_joined state.pools (closed_pool (cap (extent_in s state).offset) state.pool ∷ []) in
        record { role = is; number = omega (arith, more, one, low) }
    go (inr same) = absurd ((let more : p < length state.pools = subst (λ k. p < length k) same high in omega (arith, more, low)))

pool_statement : (whole : Whole) (all : List PlacedStatement) (bases : Bases) (s : PlacedStatement) (mine : Line) → is_control s.place.section whole.control ≡ true → role_in s.stmt ≡ role.Pool
    → HasOwn (pool_standing whole all (pool_of whole s)) mine → HasOwn (statement_standing whole all bases s) mine
unfolding statement_standing
pool_statement whole all bases s mine within is own = rw (within, is) own

-- each pool that is closed among lines is in what their statements make
in_statements : (whole : Whole) (all : List PlacedStatement) (p : ℕ) (mine : Line) → ((s : PlacedStatement) → s.place.pool ≡ p → HasOwn (pool_standing whole all (pool_of whole s)) mine)
    → (bases : Bases) (items before more : List Item) → (state_after (more ++ (reverse items ++ before))).fault ≡ None
    → whole.control ≡ (state_after (more ++ (reverse items ++ before))).control
    → length (state_after before).pools ≤ p → p < length (state_after (reverse items ++ before)).pools
    → HasOwn (standing_from whole all bases (statements_from before items)) mine
in_statements whole all p mine own bases [] before more sound control low high = absurd (omega (arith, low, high))
in_statements whole all p mine own bases (item ∷ items) before more sound control low high =
    go item.stmt refl (λ bases' low'. in_statements whole all p mine own bases' items (item ∷ before) more sound' control' low' high')
  where
    state : PassState
    state = state_after before

    step : more ++ (reverse (item ∷ items) ++ before) ≡ more ++ (reverse items ++ (item ∷ before))
    step = ap (λ k. more ++ k) (reverse_step item items before)

    sound' : (state_after (more ++ (reverse items ++ (item ∷ before)))).fault ≡ None
    sound' = subst (λ k. (state_after k).fault ≡ None) step sound

    control' : whole.control ≡ (state_after (more ++ (reverse items ++ (item ∷ before)))).control
    control' = subst (λ k. whole.control ≡ (state_after k).control) step control

    high' : p < length (state_after (reverse items ++ (item ∷ before))).pools
    high' = subst (λ k. p < length (state_after k).pools) (reverse_step item items before) high

    joined_lines : (more ++ reverse items) ++ (item ∷ before) ≡ more ++ (reverse items ++ (item ∷ before))
    joined_lines = append_assoc more (reverse items) (item ∷ before)

    by_count : (s : Stmt) → item.stmt ≡ Some s → ((bases' : Bases) → length (state_after (item ∷ before)).pools ≤ p → HasOwn (standing_from whole all bases' (statements_from (item ∷ before) items)) mine)
        → ((length (state_after (item ∷ before)).pools ≤ p) ⊎ (p < length (state_after (item ∷ before)).pools))
        → HasOwn (standing_from whole all bases (placed_statement item.line s (place_in s state) ∷ statements_from (item ∷ before) items)) mine
    by_count s begins rest (inl le) =
        let here = placed_statement item.line s (place_in s state) in
        own_right (statement_standing whole all bases here) (standing_from whole all (bases_after whole bases here) (statements_from (item ∷ before) items)) mine
        (statement_held whole all bases here) (rest (bases_after whole bases here) le)
    by_count s begins rest (inr gt) =
        let here = placed_statement item.line s (place_in s state) in
        let after_is : state_after (item ∷ before) ≡ next_state item.line s state = ap (λ o. after_line item.line o state) begins in
        let closed = closes item.line s state p low (subst (λ k. p < length k.pools) after_is gt) in
        let fault = own_section item.line s before (more ++ reverse items) item refl begins (subst (λ k. (state_after k).fault ≡ None) (sym joined_lines) sound') in
        let within : is_control state.section state.control ≡ true = pool_within (role_in s) (name_in s) state.section state.control closed.role fault in
        let there : is_control state.section whole.control ≡ true =
        ap (is_control state.section) (control' ∙ ap (λ k. (state_after k).control) (sym joined_lines ∙ sym (append_assoc (more ++ reverse items) (item ∷ []) before)))
        ∙ control_same ((more ++ reverse items) ++ (item ∷ [])) before state.section within in
        own_left (statement_standing whole all bases here) (standing_from whole all (bases_after whole bases here) (statements_from (item ∷ before) items)) mine
        (pool_statement whole all bases here mine there closed.role (own here closed.number))
        (all_held whole all (bases_after whole bases here) (statements_from (item ∷ before) items))

    go : (o : Option Stmt) → item.stmt ≡ o → ((bases' : Bases) → length (state_after (item ∷ before)).pools ≤ p → HasOwn (standing_from whole all bases' (statements_from (item ∷ before) items)) mine)
        → HasOwn (standing_from whole all bases (statements_from before (item ∷ items))) mine
    go None begins rest =
        let heads : statements_from before (item ∷ items) ≡ statements_from (item ∷ before) items =
        ap (λ o. cons_option (option_and_then (λ stmt. option_map (placed_statement item.line stmt) (place_for o state)) o) (statements_from (item ∷ before) items)) begins in
        let same : state_after (item ∷ before) ≡ state = ap (λ o. after_line item.line o state) begins in
        subst (λ k. HasOwn (standing_from whole all bases k) mine) (sym heads) (rest bases (subst (λ k. length k.pools ≤ p) (sym same) low))
    go (Some s) begins rest =
        let heads : statements_from before (item ∷ items) ≡ placed_statement item.line s (place_in s state) ∷ statements_from (item ∷ before) items =
        ap (λ o. cons_option (option_and_then (λ stmt. option_map (placed_statement item.line stmt) (place_for o state)) o) (statements_from (item ∷ before) items)) begins in
        subst (λ k. HasOwn (standing_from whole all bases k) mine) (sym heads) (by_count s begins rest (choose (length (state_after (item ∷ before)).pools) p))
      where
        choose : (a b : ℕ) → (a ≤ b) ⊎ (b < a)
        choose a b = ⊎_elim (λ yes. inl yes.1) (λ no. inr no.1) (leb_tells a b)

-- and the last one comes after them
at_end : (whole : Whole) (all : List PlacedStatement) (mine : Line) → HasOwn (pool_standing whole all (last_pool whole)) mine → (bases : Bases) (ss : List PlacedStatement)
    → HasOwn (standing_from whole all bases ss) mine
at_end whole all mine own bases [] = own
at_end whole all mine own bases (s ∷ ss) =
    own_right (statement_standing whole all bases s) (standing_from whole all (bases_after whole bases s) ss) mine (statement_held whole all bases s)
    (at_end whole all mine own (bases_after whole bases s) ss)

-- ---- the literal that a statement has
record IsFound (whole : Whole) (s : PlacedStatement) (text : List ℕ) (value : Value) : Type 0 where
  literal : Literal
  there : lookup (bytes_eq text) (pool_of whole s) ≡ Some literal
  name : List ℕ
  section : s.place.section ≡ Some name
  is : place_value (Some name) literal.offset (item_length (constant_in false text)) ≡ value

found : (whole : Whole) (s : PlacedStatement) (text : List ℕ) (value : Value) → literal_in s.stmt.operand ≡ Some (codes "=" ++ text) → literal_of whole s ≡ Some value → IsFound whole s text value
found whole s text value last e =
    go (lookup (bytes_eq text) (pool_of whole s)) refl (subst (λ o. option_and_then (literal_place whole s) (option_and_then literal_text o) ≡ Some value) last e)
  where
    in_section : (literal : Literal) (o : Option (List ℕ)) → lookup (bytes_eq text) (pool_of whole s) ≡ Some literal → s.place.section ≡ o
        → location_counter o literal.offset (item_length (constant_in false text)) ≡ Some value → IsFound whole s text value
    in_section literal None there is e = absurd (cc)
    in_section literal (Some name) there is e = record { literal = literal; there = there; name = name; section = is; is = cc }

    go : (o : Option Literal) → lookup (bytes_eq text) (pool_of whole s) ≡ o
        → option_and_then (λ (l : Literal). location_counter s.place.section l.offset (item_length (constant_in false text))) o ≡ Some value → IsFound whole s text value
    go None there e = absurd (cc)
    go (Some literal) there e = in_section literal s.place.section there refl e

-- ---- its line
within_pools : (pools : List PlacedLiterals) (p : ℕ) (text : List ℕ) (literal : Literal) → lookup (bytes_eq text) (unwrap_or (slice_get pools p) []) ≡ Some literal → p < length pools
within_pools pools p text literal e = ⊎_elim
    (λ past. absurd (let none = slice_get_past pools p past.1 in no_literal (subst (λ o. lookup (bytes_eq text) (unwrap_or o []) ≡ Some literal) none e)))
    (λ less. less.1)
    (leb_tells (length pools) p)
  where
    no_literal : lookup (bytes_eq text) [] ≡ Some literal → ⊥
    no_literal e = cc

literal_own : (source : Source) (p : ℕ) (text : List ℕ) (literal : Literal) (byte : ℕ) (bytes : List ℕ) → (final_state source).fault ≡ None
    → HasBytes (whole_of source) text (byte ∷ bytes) → lookup (bytes_eq text) (unwrap_or (slice_get (whole_of source).pools p) []) ≡ Some literal
    → HasOwn (standing_of source) (line literal.offset (Data (byte ∷ bytes)))
unfolding standing_of
literal_own source p text literal byte bytes sound is there = ⊎_elim (λ yes. last yes.1) (λ no. closed no.1) (leb_tells (length state.pools) p)
  where
    state : PassState
    state = final_state source

    whole : Whole
    whole = whole_of source

    all : List PlacedStatement
    all = statements_of source

    mine : Line
    mine = line literal.offset (Data (byte ∷ bytes))

    one : length whole.pools ≡ length state.pools + 1
    one = length_joined state.pools (closed_pool (cap (last_pool_extent state).offset) state.pool ∷ [])

    turned : reverse source.items ++ [] ≡ reverse source.items
    turned = append-nil (reverse source.items)

    last : length state.pools ≤ p → HasOwn (standing_from whole all none_in_use all) mine
    last le =
        let less = within_pools whole.pools p text literal there in
        let same : p ≡ length whole.pools - 1 = omega (arith, le, less, one) in
        at_end whole all mine (pool_own whole all (last_pool whole) text literal byte bytes is (subst (λ k. lookup (bytes_eq text) (unwrap_or (slice_get whole.pools k) []) ≡ Some literal) same there)) none_in_use all

    closed : p < length state.pools → HasOwn (standing_from whole all none_in_use all) mine
    closed less =
        subst (λ k. HasOwn (standing_from whole all none_in_use k) mine) (sym (statements_are source))
        (in_statements whole all p mine
        (λ s e. pool_own whole all (pool_of whole s) text literal byte bytes is (subst (λ k. lookup (bytes_eq text) (unwrap_or (slice_get whole.pools k) []) ≡ Some literal) (sym e) there))
        none_in_use source.items [] []
        (subst (λ k. (state_after k).fault ≡ None) (sym turned) sound)
        (ap (λ k. (state_after k).control) (sym turned))
        (omega arith)
        (subst (λ k. p < length (state_after k).pools) (sym turned) less))

-- ---- the law
pub record Knows : Type 0 where
  pub addresses : OperandsAddress
  pub size : (source : Source) (made : AssemblyParts) → assembly_of source ≡ Ok made → length made.section.image.text ≡ control_section_size source
  pub short : (source : Source) (made : AssemblyParts) → assembly_of source ≡ Ok made → control_section_size source ≤ 65536
  pub apart : (source : Source) (made : AssemblyParts) → assembly_of source ≡ Ok made → AreApart 0 made.section.resolved (length made.section.image.text)

record IsLiteral (c : Context) (text : List ℕ) (index : ℕ) (address : Address) : Type 0 where
  value : Value
  is : c.literal ≡ Some value
  none : index ≡ 0

is_literal_so : (c : Context) (text : List ℕ) (index : ℕ) (address : Address) → indexed_in c (codes "=" ++ text) ≡ Ok (index, address) → IsLiteral c text index address
unfolding indexed_in operand_in
is_literal_so c text index address e = go c.literal refl e
  where
    go : (o : Option Value) → c.literal ≡ o → both_or_lower_fault (Ok 0) (then_check (implied_address c.bases) (ok_or o BadOperand)) ≡ Ok (index, address) → IsLiteral c text index address
    go None is e = absurd (cc)
    go (Some value) is e =
        let parts = both_ok (Ok 0) (implied_address c.bases value) index address e in
        record { value = value; is = is; none = (let same = parts.0 in cc) }

literal_written : (c : Context) (text : List ℕ) → operand_in true c (codes "=" ++ text) ≡ Some (operand (ok_or c.literal BadOperand) [])
unfolding operand_in
literal_written c text = refl

is_ok : (o : Option Value) (value other : Value) → o ≡ Some value → ok_or o BadOperand ≡ Ok other → value ≡ other
is_ok o value other is e = (let found : ◌≡◌ {A = Result Value FaultKind} (Ok value) (Ok other) = sym (ap (λ k. ok_or k BadOperand) is) ∙ e in cc)

stands_so : Knows → (source : Source) (assembly : AssemblyParts) (bases : Bases) (number : ℕ) (before : List Item) (s : Stmt) (text : List ℕ) (byte : ℕ) (bytes : List ℕ) (index : ℕ) (address : Address)
    → assembly_of source ≡ Ok assembly → HasInstruction source before number s → literal_in s.operand ≡ Some (codes "=" ++ text) → HasBytes (whole_of source) text (byte ∷ bytes)
    → indexed_in (context_of (whole_of source) bases number before s) (codes "=" ++ text) ≡ Ok (index, address)
    → StandsInSection source assembly (context_of (whole_of source) bases number before s) (byte ∷ bytes) index address
unfolding section_of
stands_so knows source assembly bases number before s text byte bytes index address e has last is resolves =
    let whole = whole_of source in
    let state = state_after before in
    let c = context_of whole bases number before s in
    let ok = accepted source assembly e in
    let literal = is_literal_so c text index address resolves in
    let f = found whole (placed_statement number s (place_in s state)) text literal.value last literal.is in
    let mine = line f.literal.offset (Data (byte ∷ bytes)) in
    let own = literal_own source (length state.pools) text f.literal byte bytes ok.first is f.there in
    let resolved : assembly.section.resolved ≡ own.front ++ mine ∷ own.back = ap (λ k. k.section.resolved) (sym ok.made) ∙ own.is in
    let words : HaveWords assembly.section.image.relocs (own.front ++ own.back) = subst (λ k. HaveWords k.section.image.relocs (own.front ++ own.back)) ok.made own.words in
    let apart : AreApart 0 (own.front ++ mine ∷ own.back) (length assembly.section.image.text) =
    subst (λ k. AreApart 0 k (length assembly.section.image.text)) resolved (knows.apart source assembly e) in
    let inside = (begins 0 own.front mine own.back (length assembly.section.image.text) apart).1 in
    let small : f.literal.offset ≤ bound = (let size = knows.size source assembly e in let short = knows.short source assembly e in omega (arith, inside, size, short)) in
    let turned : reverse source.items ≡ reverse has.after ++ (has.item ∷ before) =
    ap (λ k. reverse k) has.is ∙ reverse-append (reverse before) (has.item ∷ has.after) ∙ ap (λ k. reverse (has.item ∷ has.after) ++ k) (reverse-reverse before)
    ∙ reverse_step has.item has.after before in
    let sound : (state_after (reverse has.after ++ (has.item ∷ before))).fault ≡ None = subst (λ k. (state_after k).fault ≡ None) turned ok.first in
    let fault = own_section number s before (reverse has.after) has.item has.numbered has.begins sound in
    let within = instruction_within (role_in s) (name_in s) state.section state.control has.role fault in
    let there : is_control state.section whole.control ≡ true =
    ap (is_control state.section) (ap (λ k. (state_after k).control) (turned ∙ sym (append_assoc (reverse has.after) (has.item ∷ []) before)))
    ∙ control_same (reverse has.after ++ (has.item ∷ [])) before state.section within in
    record {
      none = literal.none;
      section = f.name;
      control = sym (in_control state.section whole.control there) ∙ f.section;
      offset = f.literal.offset;
      lies = lies_at knows.addresses c (codes "=" ++ text) f.name (pos f.literal.offset) 0 address (ok_or c.literal BadOperand) (literal_written c text)
          (λ value expression_value.
          let same : place_value (Some f.name) f.literal.offset (item_length (constant_in false text)) ≡ value = f.is ∙ is_ok c.literal literal.value value literal.is expression_value in
          record {
            section = ap (λ v. v.section) (sym same);
            number = ap (λ v. v.number) (sym same) ∙ ap pos (capped_same f.literal.offset small) ∙ sym (+ℤ_idr (pos f.literal.offset));
          })
          (subst (λ k. indexed_in c (codes "=" ++ text) ≡ Ok (k, address)) literal.none resolves);
      front = own.front;
      back = own.back;
      stands = resolved;
      unraised = own_unraised own.front mine own.back (length assembly.section.image.text) assembly.section.image.relocs apart words;
    }

pub literals_stand : Knows → LiteralsStand
literals_stand knows source assembly bases number before s text [] index address e has last is some resolves = absurd (omega arith)
literals_stand knows source assembly bases number before s text (byte ∷ bytes) index address e has last is some resolves =
    stands_so knows source assembly bases number before s text byte bytes index address e has last is resolves
