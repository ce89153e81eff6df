-- What is in the control section of a source doesn't overlap, from its start to its end.
use Rattle.std.specs.Prelude.{option_and_then, unwrap_or, slice_get, ◌-◌}
use Rattle.std.specs.List.{cons_option, filter_map}
use Rattle.std.specs.Option.{option_map_or}
use Rattle.std.proofs.Common.{◌≡◌, ◌≤◌, ℕ, ◌+◌, Bool, true, false, cond, Option, Some, None, option_map, List, [], ◌∷◌, ◌++◌, length, reverse, append-nil, append_assoc, refl, sym, ◌∙◌, ap, subst, arith, length-append, lit≤}
use Rattle.std.proofs.lemmas.Grind.{reverse_onto}
use Rattle.cx_source.specs.declared.source.Item.{Item}
use Rattle.cx_source.specs.declared.source.Source.{Source}
use Rattle.cx_source.specs.declared.source.Stmt.{Stmt}
use Rattle.cx_asm_expressions.specs.Digits.{bound}
use Rattle.cx_asm_expressions.specs.Faults.{lower}
use Rattle.cx_asm_expressions.specs.declared.faults.FaultKind.{FaultKind}
use Rattle.cx_asm_expressions.specs.declared.faults.FaultKind.TheVariants.{BadOperand}
use Rattle.cx_asm_pools.specs.Pools.{PlacedLiterals, OpenLiterals, cap, closed_pool, pool_extent}
use Rattle.cx_asm_pass1.specs.Facts.Apart.{closing_apart, in_control, lengths_grow, section_ends, statement_stands}
use Rattle.cx_asm_pass1.specs.Facts.Faults.{control_named, none_before}
use Rattle.cx_asm_pass1.specs.Facts.StatementExtents.{lower_none}
use Rattle.cx_asm_pass1.specs.declared.place.ControlSection.{ControlSection}
use Rattle.cx_asm_pass1.specs.declared.place.LineFault.{LineFault}
use Rattle.cx_asm_pass1.specs.Facts.Kept.{last_pool as last_reported, pool_among, pool_kept, pool_listed}
use Rattle.cx_asm_pass1.specs.PassState.{PassState, next_state, after_line, state_at_start, named_control, statement_fault_in, first_fault_after, is_control, literal_fault, name_fault, name_in, operation_fault, own_fault, pool_after, section_fault, state_after, extent_in, length_of_section, parts_in, place_in, role_in}
use Rattle.cx_asm_pass1.specs.Laws.Apart.{Stands, section_length}
use Rattle.cx_asm_pass1.specs.Layout.{extent_of}
use Rattle.cx_asm_pass1.specs.Locations.{all_pools, last_pool_extent, final_state}
use Rattle.cx_asm_pass1.specs.declared.roles.Role.{Role}
use Rattle.cx_asm_pass1.specs.declared.roles.Role.TheVariants.{Unknown, Instruction, Control, Dummy, Equate, Storage, Pool, Registers, Member, Nothing}
use Rattle.cx_asm_operands.specs.Bases.{Bases, none_in_use}
use Rattle.cx_asm_pass2.specs.SecondFaults.{bases_after}
use Rattle.cx_asm_pass1.specs.declared.place.Place.{Place}
use Rattle.cx_asm_pass2.specs.Statements.{PlacedItem, PlacedStatement, operation_of, placed_latest_first, placed_of, placed_statement, stated_in, statements_of}
use Rattle.cx_asm_pass2.specs.Whole.{Whole, pool_of, whole_of_state, whole_of}
use Rattle.cx_asm.specs.Assembly.{control_section_size, standing_of}
use Rattle.cx_asm.specs.Laws.SectionLines.{IsWithin}
use Rattle.cx_asm.specs.Resolving.{Standing, last_pool, empty_section, pool_standing, role_standing, standing_from, statement_standing}
use Rattle.cx_asm.specs.Facts.Bases.{after_sixteen}
use Rattle.cx_asm.proofs.WithinLemmas.{Resolves, Spelled, instruction_within, items_within, pool_within, within_joined, within_later, within_nothing}

abbrev placed_item : Item → Option Place → PlacedItem
placed_item item place = record { item = item; place = place }

abbrev place_for : Option Stmt → PassState → Option Place
place_for stmt state = option_map (λ s. place_in s state) stmt

-- ---- without a control section
first_none : (line : ℕ) (fault : Option FaultKind) (first : Option LineFault) → first ≡ None → first_fault_after line fault first ≡ None → fault ≡ None
first_none line None None e f = refl
first_none line (Some fault) None e f = cc
first_none line fault (Some first) e f = cc

third_none : (a b c d : Option FaultKind) → lower a (lower b (lower c d)) ≡ None → c ≡ None
third_none a b c d e = (lower_none c d (lower_none b (lower c d) (lower_none a (lower b (lower c d)) e).1).1).0

section_sound : (line : ℕ) (stmt : Stmt) (state : PassState) → (next_state line stmt state).fault ≡ None → section_fault (role_in stmt) (name_in stmt) state.section state.control ≡ None
unfolding next_state
section_sound line stmt state e =
    let own = lower_none (own_fault stmt state) (literal_fault (role_in stmt) (length state.places) (parts_in stmt) state.pool)
    (first_none line (statement_fault_in stmt state) state.fault (none_before line stmt state e) e) in
    third_none (operation_fault (role_in stmt)) (name_fault (role_in stmt) stmt.name) (section_fault (role_in stmt) (name_in stmt) state.section state.control) _ own.0

outside : (section : Option (List ℕ)) → is_control section None ≡ true → ⊥
outside None e = cc
outside (Some section) e = cc

unless_inside : (is : Bool) → cond is None (Some BadOperand) ≡ None → is ≡ true
unless_inside true e = refl
unless_inside false e = cc

-- an instruction, whose literals are pooled, is in the control section
no_instruction : (section control : Option (List ℕ)) → control ≡ None → cond (is_control section control) None (Some BadOperand) ≡ None → ⊥
no_instruction section None e f = outside section (unless_inside (is_control section None) f)
no_instruction section (Some control) e f = cc

no_pool_after : (role : Role) (name section control : Option (List ℕ)) (user : ℕ) (operands : List (List ℕ)) (pool : OpenLiterals) → named_control role name control ≡ None
    → section_fault role name section control ≡ None → (control ≡ None → pool ≡ []) → pool_after role user operands pool ≡ []
no_pool_after (Instruction size) name section control user operands pool e f h = absurd (no_instruction section control e f)
no_pool_after Pool name section control user operands pool e f h = refl
no_pool_after Control name section None user operands pool e f h = h refl
no_pool_after Control name section (Some control) user operands pool e f h = cc
no_pool_after Unknown name section control user operands pool e f h = h e
no_pool_after Dummy name section control user operands pool e f h = h e
no_pool_after Equate name section control user operands pool e f h = h e
no_pool_after (Storage is_ds) name section control user operands pool e f h = h e
no_pool_after Registers name section control user operands pool e f h = h e
no_pool_after Member name section control user operands pool e f h = h e
no_pool_after Nothing name section control user operands pool e f h = h e

no_pool_line : (line : ℕ) (stmt : Option Stmt) (state : PassState) → (after_line line stmt state).fault ≡ None → (after_line line stmt state).control ≡ None
    → (state.fault ≡ None → state.control ≡ None → state.pool ≡ []) → (after_line line stmt state).pool ≡ []
unfolding next_state
no_pool_line line None state e f h = h e f
no_pool_line line (Some stmt) state e f h =
    no_pool_after (role_in stmt) (name_in stmt) state.section state.control (length state.places) (parts_in stmt) state.pool (sym (control_named line stmt state e) ∙ f) (section_sound line stmt state e) (h (none_before line stmt state e))

no_pool : (items : List Item) → (state_after items).fault ≡ None → (state_after items).control ≡ None → (state_after items).pool ≡ []
no_pool [] e f = refl
no_pool (item ∷ before) e f = no_pool_line item.line item.stmt (state_after before) e f (no_pool before)

no_end : (pool : OpenLiterals) (control : Option (List ℕ)) (lengths : List ℕ → ℕ) → pool ≡ [] → control ≡ None → 0 ≡ (extent_of Pool [] (pool_extent pool) (cap (length_of_section control lengths))).end
unfolding extent_of
no_end pool control lengths e f = rw (e, f) refl

sized : (state : PassState) (control : Option (List ℕ)) → state.control ≡ control → (state.control ≡ None → state.pool ≡ [])
    → option_map_or (λ (c : ControlSection). c.length) (option_map (λ name. record { name = name; length = (last_pool_extent state).end }) control) 0 ≡ (last_pool_extent state).end
sized state (Some name) e h = refl
sized state None e h = no_end state.pool state.control state.lengths (h e) e

-- the control section's length is its end, 0 without one
size_is : (source : Source) → (final_state source).fault ≡ None → control_section_size source ≡ (last_pool_extent (final_state source)).end
size_is source e = sized (final_state source) (final_state source).control refl (no_pool (reverse source.items) e)

-- ---- the control section
-- the length so far of the section that is the control section in the end
abbrev so_far : Option (List ℕ) → PassState → ℕ
so_far control state = length_of_section control state.lengths

abbrev statement_after : Stmt → ℕ → PassState → PlacedStatement
statement_after stmt line state = placed_statement line stmt (place_in stmt state)

module _ (resolves : Resolves) (spelled : Spelled) (statements : List PlacedStatement) where
  -- ---- a statement
  module _ (whole : Whole) (bases : Bases) (sixteen : length bases ≡ 16) (line : ℕ) (stmt : Stmt) (state : PassState) where
    role_within : (role : Role) (from : ℕ) → role_in stmt ≡ role → Stands role (parts_in stmt) state.pool from (extent_in stmt state)
        → (role ≡ Pool → pool_of whole (statement_after stmt line state) ≡ closed_pool (cap (extent_in stmt state).offset) state.pool)
        → IsWithin from (role_standing whole statements bases (statement_after stmt line state) role) (extent_in stmt state).end
    role_within (Instruction size) from e stand pool =
        subst (λ end. IsWithin from (role_standing whole statements bases (statement_after stmt line state) (Instruction size)) end) (sym stand.2)
        (instruction_within resolves spelled whole bases sixteen (statement_after stmt line state) (operation_of (statement_after stmt line state)) size from e stand.0)
    role_within (Storage is_ds) from e stand pool =
        items_within whole is_ds (statement_after stmt line state) (parts_in stmt) (extent_in stmt state).items from (extent_in stmt state).end stand
    role_within Pool from e stand pool =
        within_later from (extent_in stmt state).offset _ _ stand.0
        (subst (λ p. IsWithin (extent_in stmt state).offset (pool_standing whole statements p) (extent_in stmt state).end) (sym (pool refl))
        (pool_within whole statements (closed_pool (cap (extent_in stmt state).offset) state.pool) 8 (extent_in stmt state).offset (extent_in stmt state).end stand.1.stand))
    role_within Unknown from e stand pool = within_nothing from (extent_in stmt state).end (omega (arith, stand.1))
    role_within Control from e stand pool = within_nothing from (extent_in stmt state).end (omega (arith, stand.1))
    role_within Dummy from e stand pool = within_nothing from (extent_in stmt state).end (omega (arith, stand.1))
    role_within Equate from e stand pool = within_nothing from (extent_in stmt state).end (omega (arith, stand.1))
    role_within Registers from e stand pool = within_nothing from (extent_in stmt state).end (omega (arith, stand.1))
    role_within Member from e stand pool = within_nothing from (extent_in stmt state).end (omega (arith, stand.1))
    role_within Nothing from e stand pool = within_nothing from (extent_in stmt state).end (omega (arith, stand.1))

  ends_at : (line : ℕ) (stmt : Stmt) (state : PassState) (control : Option (List ℕ)) → is_control state.section control ≡ true → so_far control (next_state line stmt state) ≡ (extent_in stmt state).end
  unfolding next_state
  ends_at line stmt state None is = absurd (outside state.section is)
  ends_at line stmt state (Some name) is = section_ends state (extent_in stmt state).end name (in_control state.section (Some name) is)

  grows : (before : List Item) (line : ℕ) (stmt : Stmt) (control : Option (List ℕ)) → (next_state line stmt (state_after before)).fault ≡ None
      → so_far control (state_after before) ≤ so_far control (next_state line stmt (state_after before))
  grows before line stmt None sound = omega arith
  grows before line stmt (Some name) sound = lengths_grow before line stmt sound name

  when_within : (is : Bool) (from to : ℕ) (one : Standing) → (is ≡ true → IsWithin from one to) → from ≤ to → IsWithin from (cond is one empty_section) to
  when_within true from to one h le = h refl
  when_within false from to one h le = within_nothing from to le

  module _ (all : PassState) where
    statement_within : (bases : Bases) → length bases ≡ 16 → (before : List Item) (line : ℕ) (stmt : Stmt) → (next_state line stmt (state_after before)).fault ≡ None
        → ((k : ℕ) (it : PlacedLiterals) → slice_get (next_state line stmt (state_after before)).pools k ≡ Some it → slice_get all.pools k ≡ Some it)
        → IsWithin (so_far all.control (state_after before)) (statement_standing (whole_of_state all) statements bases (statement_after stmt line (state_after before)))
        (so_far all.control (next_state line stmt (state_after before)))
    unfolding statement_standing
    statement_within bases sixteen before line stmt sound kept =
        let state = state_after before in
        let pool : (role_in stmt ≡ Pool → pool_of (whole_of_state all) (statement_after stmt line state) ≡ closed_pool (cap (extent_in stmt state).offset) state.pool) =
        λ e. ap (λ o. unwrap_or o []) (pool_among all (length state.pools) _ (kept (length state.pools) _ (pool_listed line stmt state e))) in
        let stand : (is_control state.section all.control ≡ true
        → IsWithin (so_far all.control state) (role_standing (whole_of_state all) statements bases (statement_after stmt line state) (role_in stmt)) (so_far all.control (next_state line stmt state))) =
        λ is. subst (λ from. IsWithin from (role_standing (whole_of_state all) statements bases (statement_after stmt line state) (role_in stmt)) (so_far all.control (next_state line stmt state)))
        (ap (λ section. length_of_section section state.lengths) (in_control state.section all.control is))
        (subst (λ to. IsWithin (section_length state) (role_standing (whole_of_state all) statements bases (statement_after stmt line state) (role_in stmt)) to)
        (sym (ends_at line stmt state all.control is))
        (role_within (whole_of_state all) bases sixteen line stmt state (role_in stmt) (section_length state) refl (statement_stands before line stmt sound) pool)) in
        when_within (is_control state.section all.control) _ _ _ stand (grows before line stmt all.control sound)

    -- one line more
    onward : (before : List Item) (line : ℕ) (stmt : Option Stmt) (rest : List PlacedStatement) (end : ℕ) (bases : Bases) → length bases ≡ 16
        → (after_line line stmt (state_after before)).fault ≡ None
        → ((k : ℕ) (it : PlacedLiterals) → slice_get (after_line line stmt (state_after before)).pools k ≡ Some it → slice_get all.pools k ≡ Some it)
        → ((bases : Bases) → length bases ≡ 16
        → IsWithin (so_far all.control (after_line line stmt (state_after before))) (standing_from (whole_of_state all) statements bases rest) end)
        → IsWithin (so_far all.control (state_after before))
        (standing_from (whole_of_state all) statements bases (cons_option (option_and_then (λ s. option_map (placed_statement line s) (place_for stmt (state_after before))) stmt) rest)) end
    onward before line None rest end bases sixteen sound kept more = more bases sixteen
    onward before line (Some stmt) rest end bases sixteen sound kept more =
        within_joined (so_far all.control (state_after before)) (so_far all.control (next_state line stmt (state_after before))) end _ _
        (statement_within bases sixteen before line stmt sound kept)
        (more (bases_after (whole_of_state all) bases (statement_after stmt line (state_after before))) (after_sixteen (whole_of_state all) bases (statement_after stmt line (state_after before)) sixteen))

  -- ---- the last pool
  count_less : (n m : ℕ) → n ≡ m + 1 → n - 1 ≡ m
  count_less n m e = omega (arith, e)

  last_is : (all : PassState) → last_pool (whole_of_state all) ≡ closed_pool (cap (last_pool_extent all).offset) all.pool
  last_is all =
      ap (λ n. unwrap_or (slice_get (all_pools all) n) []) (count_less _ _ (length-append all.pools (closed_pool (cap (last_pool_extent all).offset) all.pool ∷ [])))
      ∙ ap (λ o. unwrap_or o []) (last_reported all)

  closing_within : (items : List Item) (bases : Bases) → (state_after items).fault ≡ None → (last_pool_extent (state_after items)).end ≤ bound
      → IsWithin (so_far (state_after items).control (state_after items)) (standing_from (whole_of_state (state_after items)) statements bases []) (last_pool_extent (state_after items)).end
  closing_within items bases sound le =
      let apart = closing_apart items sound le in
      subst (λ pool. IsWithin (so_far (state_after items).control (state_after items)) (pool_standing (whole_of_state (state_after items)) statements pool) (last_pool_extent (state_after items)).end)
      (sym (last_is (state_after items)))
      (within_later _ (last_pool_extent (state_after items)).offset _ _ apart.begins (pool_within (whole_of_state (state_after items)) statements _ 8 _ _ apart.literals.stand))

  -- ---- all lines
  after : List Item → List Item → List Item
  after [] before = before
  after (item ∷ later) before = after later (item ∷ before)

  placed_after : List Item → List Item → List PlacedItem
  placed_after before [] = []
  placed_after before (item ∷ later) = placed_item item (place_for item.stmt (state_after before)) ∷ placed_after (item ∷ before) later

  sound_line : (line : ℕ) (stmt : Option Stmt) (state : PassState) → (after_line line stmt state).fault ≡ None → state.fault ≡ None
  sound_line line None state e = e
  sound_line line (Some stmt) state e = none_before line stmt state e

  sound_back : (later before : List Item) → (state_after (after later before)).fault ≡ None → (state_after before).fault ≡ None
  unfolding after
  sound_back [] before e = e
  sound_back (item ∷ later) before e = sound_line item.line item.stmt (state_after before) (sound_back later (item ∷ before) e)

  pools_back : (later before : List Item) (k : ℕ) (it : PlacedLiterals) → slice_get (state_after before).pools k ≡ Some it → slice_get (state_after (after later before)).pools k ≡ Some it
  unfolding after
  pools_back [] before k it e = e
  pools_back (item ∷ later) before k it e = pools_back later (item ∷ before) k it (pool_kept (item ∷ []) before k it e)

  along : (later before : List Item) (bases : Bases) → length bases ≡ 16 → (state_after (after later before)).fault ≡ None → (last_pool_extent (state_after (after later before))).end ≤ bound
      → IsWithin (so_far (state_after (after later before)).control (state_after before))
      (standing_from (whole_of_state (state_after (after later before))) statements bases (filter_map stated_in (placed_after before later))) (last_pool_extent (state_after (after later before))).end
  unfolding after placed_after
  along [] before bases sixteen sound le = closing_within before bases sound le
  along (item ∷ later) before bases sixteen sound le =
      onward (state_after (after later (item ∷ before))) before item.line item.stmt (filter_map stated_in (placed_after (item ∷ before) later)) _ bases sixteen
      (sound_back later (item ∷ before) sound) (pools_back later (item ∷ before))
      (λ bases sixteen. along later (item ∷ before) bases sixteen sound le)

  -- ---- a source's lines
  reverse_first : {X : Type 0} (x : X) (xs : List X) → reverse (x ∷ xs) ≡ reverse xs ++ x ∷ []
  reverse_first x xs = reverse_onto xs x []

  after_is : (later before : List Item) → after later before ≡ reverse later ++ before
  unfolding after
  after_is [] before = refl
  after_is (item ∷ later) before =
      after_is later (item ∷ before) ∙ sym (ap (λ (l : List Item). l ++ before) (reverse_first item later) ∙ append_assoc (reverse later) (item ∷ []) before)

  placed_is : (later before : List Item) → reverse (placed_latest_first (after later before)) ≡ reverse (placed_latest_first before) ++ placed_after before later
  unfolding after placed_after
  placed_is [] before = sym (append-nil (reverse (placed_latest_first before)))
  placed_is (item ∷ later) before =
      placed_is later (item ∷ before)
      ∙ ap (λ (l : List PlacedItem). l ++ placed_after (item ∷ before) later) (reverse_first (placed_item item (place_for item.stmt (state_after before))) (placed_latest_first before))
      ∙ append_assoc (reverse (placed_latest_first before)) (placed_item item (place_for item.stmt (state_after before)) ∷ []) (placed_after (item ∷ before) later)

  reversed : (items : List Item) → after items [] ≡ reverse items
  reversed items = after_is items [] ∙ append-nil (reverse items)

  start : (control : Option (List ℕ)) → so_far control state_at_start ≡ 0
  start None = refl
  start (Some name) = refl

  placed_here : (items : List Item) → placed_after [] items ≡ reverse (placed_latest_first (reverse items))
  placed_here items = sym (placed_is items []) ∙ ap (λ (l : List Item). reverse (placed_latest_first l)) (reversed items)

  all_within : (items before : List Item) → after items [] ≡ before → (state_after before).fault ≡ None → (last_pool_extent (state_after before)).end ≤ bound
      → IsWithin (so_far (state_after before).control state_at_start)
      (standing_from (whole_of_state (state_after before)) statements none_in_use (filter_map stated_in (placed_after [] items))) (last_pool_extent (state_after before)).end
  all_within items before e =
      subst (λ (l : List Item). (state_after l).fault ≡ None → (last_pool_extent (state_after l)).end ≤ bound → IsWithin (so_far (state_after l).control state_at_start)
      (standing_from (whole_of_state (state_after l)) statements none_in_use (filter_map stated_in (placed_after [] items))) (last_pool_extent (state_after l)).end)
      e (along items [] none_in_use refl)

  all_stand : (source : Source) → (final_state source).fault ≡ None → (last_pool_extent (final_state source)).end ≤ bound
      → IsWithin 0 (standing_from (whole_of source) statements none_in_use (statements_of source)) (last_pool_extent (final_state source)).end
  unfolding placed_of
  all_stand source sound le =
      subst (λ from. IsWithin from (standing_from (whole_of source) statements none_in_use (statements_of source)) (last_pool_extent (final_state source)).end) (start (final_state source).control)
      (subst (λ (l : List PlacedItem). IsWithin (so_far (final_state source).control state_at_start) (standing_from (whole_of source) statements none_in_use (filter_map stated_in l)) (last_pool_extent (final_state source)).end)
      (placed_here source.items)
      (all_within source.items (reverse source.items) (reversed source.items) sound le))

pub source_within : Resolves → Spelled → (source : Source) → (final_state source).fault ≡ None → control_section_size source ≤ 65536 → IsWithin 0 (standing_of source) (control_section_size source)
unfolding standing_of
source_within resolves spelled source sound le =
    let size = size_is source sound in
    let most : (65536 ≤ bound) = lit≤ tt in
    subst (λ end. IsWithin 0 (standing_from (whole_of source) (statements_of source) none_in_use (statements_of source)) end) (sym size)
    (all_stand resolves spelled (statements_of source) source sound (omega (arith, le, size, most)))
