-- The operations of made statements, and a name before an instruction.
use Rattle.std.specs.Prelude.{codes, decimal, reverse}
use Rattle.std.proofs.Common.{◌≡◌, ◌≤◌, ℕ, ◌+◌, ◌-◌, ◌*◌, ◌==◌, Bool, true, false, cond, Option, Some, None, Ok, List, [], ◌∷◌, ◌++◌, drop, length, map, refl, sym, ◌∙◌, ap, subst, arith}
use Rattle.std.specs.List.{AllByRecursion}
use Rattle.std.proofs.lemmas.Bool.Decides.{nat_tests}
use Rattle.std.proofs.lemmas.List.{append_assoc, map-append, reverse-append}
use Rattle.cx_code.specs.Table.{length_of, ops, operation_row}
use Rattle.cx_code.specs.declared.table.Op.{Op}
use Rattle.cx_code.specs.declared.table.Op.TheVariants as op
use Rattle.cx_code.specs.declared.disassembly.Line.{Line}
use Rattle.cx_code.specs.Spelling.{Instruction}
use Rattle.cx_base.specs.declared.commands.Command.{Command}
use Rattle.cx_ebcdic.specs.Facts.Names.{is_name-laws}
use Rattle.cx_source.specs.Lines.{is_letter, is_symbol_name}
use Rattle.cx_source.specs.Marks.{parts, within_after}
use Rattle.cx_source.specs.declared.marks.Delimiter.TheVariants.{TopComma}
use Rattle.cx_source.specs.declared.source.Item.{Item}
use Rattle.cx_source.specs.declared.source.Source.{Source}
use Rattle.cx_source.specs.declared.source.Stmt.{Stmt}
use Rattle.cx_asm_expressions.specs.Digits.{bound, digit}
use Rattle.cx_asm_expressions.specs.Items.{constant, constant_in, length_of as length_of_constant}
use Rattle.cx_asm_expressions.specs.Kinds.{kind_of}
use Rattle.cx_asm_expressions.specs.Names.{symbol_name}
use Rattle.cx_asm_expressions.specs.declared.faults.FaultKind.TheVariants.{BadOperand}
use Rattle.cx_asm_expressions.specs.declared.kinds.ConstantKind.TheVariants.{Halfword}
use Rattle.cx_asm_pools.specs.Pools.{cap, pool_extent}
use Rattle.cx_asm_operations.specs.Operations.{branches, directives, operation_named, operations, register_branches}
use Rattle.cx_translate.specs.declared.words.Word.{Word}
use Rattle.cx_translate.specs.Call.{list_of, pointers_of}
use Rattle.cx_translate.specs.Expansion.{call, label, load, made_in, made_item, stmt, stores}
use Rattle.cx_translate.specs.Sections.{lines}
use Rattle.cx_base.specs.Commands.{row_of as row_of_command}
use Rattle.cx_asm_pass1.specs.Facts.Apart.{in_control, section_ends, statement_within}
use Rattle.cx_asm_pass1.specs.Facts.Faults.{section_named, none_before, sound_statement}
use Rattle.cx_asm_pass1.specs.Facts.Kept.{value_kept}
use Rattle.cx_asm_pass1.specs.Facts.StatementExtents.{capped_same, capped_within}
use Rattle.cx_asm_pass1.specs.Given.{duplicate, location_counter, place_value}
use Rattle.cx_asm_pass1.specs.PassState.{PassState, next_state, definitions_in, is_control, state_after, extent_in, length_after, length_of_section, name_in, next_in, role_in, named_section, section_fault}
use Rattle.cx_asm_pass1.specs.Layout.{align, fault_beyond, extent_of, extent_at}
use Rattle.cx_asm_pass1.specs.Locations.{final_state}
use Rattle.cx_asm_pass1.specs.declared.roles.Role.TheVariants as role
use Rattle.cx_asm_operands.specs.Bases.{Bases}
use Rattle.cx_asm_pass2.specs.Whole.{Whole, whole_of}
use Rattle.cx_asm_execution.proofs.Called.{StandsFor, call_statements}
use Rattle.cx_asm_execution.proofs.Handed.{block_of}
use Rattle.cx_asm_execution.proofs.Resolved.{AreResolved, IsResolved, StandInCode, bases_in_use, is_instruction}
use Rattle.cx_asm_execution.proofs.Stores.{load_of}
use Rattle.cx_asm_laws.specs.Facts.Lines.{control_same, fault_kept, own_sound, section_sound}
use Rattle.cx_asm_execution.proofs.StandingLemmas.{offset_is}
use Rattle.cx_asm_execution.proofs.BlockLemmas.{none_known}

-- ---- instructions
abbrev pub AreInstructions : List Item → Type 0
AreInstructions items = AllByRecursion (λ item. is_instruction item.stmt ≡ true) items

is_la : (line : ℕ) (name operand : List ℕ) → is_instruction (made_item line (stmt name (codes "LA") operand)).stmt ≡ true
unfolding made_item operation_named operations ops operation_row
is_la line name operand = refl

is_st : (line : ℕ) (name operand : List ℕ) → is_instruction (made_item line (stmt name (codes "ST") operand)).stmt ≡ true
unfolding made_item operation_named operations ops operation_row
is_st line name operand = refl

is_oi : (line : ℕ) (name operand : List ℕ) → is_instruction (made_item line (stmt name (codes "OI") operand)).stmt ≡ true
unfolding made_item operation_named operations ops operation_row
is_oi line name operand = refl

pub is_l : (line : ℕ) (name operand : List ℕ) → is_instruction (made_item line (stmt name (codes "L") operand)).stmt ≡ true
unfolding made_item operation_named operations ops operation_row
is_l line name operand = refl

is_balr : (line : ℕ) (name operand : List ℕ) → is_instruction (made_item line (stmt name (codes "BALR") operand)).stmt ≡ true
unfolding made_item operation_named operations ops operation_row
is_balr line name operand = refl

calls_so : (line k last : ℕ) (list : List (List ℕ)) → AreInstructions (lines line (stores k list ++ call last))
calls_so line k last [] = (
  is_oi line [] (codes "DFHEIPL+" ++ decimal (4 * last) ++ codes ",X'80'"),
  (is_la line [] (codes "1,DFHEIPL"), (is_l line [] (codes "15,=V(DFHEI1)"), (is_balr line [] (codes "14,15"), tt))),
)
calls_so line k last (argument ∷ list) =
    (is_la line [] (codes "0," ++ argument), (is_st line [] (codes "0,DFHEIPL+" ++ decimal (4 * k)), calls_so line (k + 1) last list))

pub calls_are : (line : ℕ) (command : Command) (words : List Word) → AreInstructions (lines line (call_statements command words))
calls_are line command words = calls_so line 0 (length (list_of command words) - 1) (list_of command words)

-- ---- DS 0H
abbrev ds : List ℕ → Stmt
ds name = stmt name (codes "DS") (codes "0H")

role_ds : (name operand : List ℕ) → role_in (stmt name (codes "DS") operand) ≡ role.Storage true
unfolding operation_named operations ops operation_row branches register_branches directives
role_ds name operand = refl

half_part : parts TopComma (codes "0H") ≡ codes "0H" ∷ []
unfolding within_after
half_part = refl

half_item : constant_in true (codes "0H") ≡ Ok (constant 0 Halfword None None)
unfolding constant_in kind_of digit within_after
half_item = refl

-- it takes nothing, on a boundary of two
laid_half : (at : ℕ) (extent : Option ℕ)
    → extent_of (role.Storage true) (parts TopComma (codes "0H")) extent at ≡ extent_at (align 2 (cap at)) (align 2 (cap at) ∷ []) (align 2 (cap at)) 2 (fault_beyond (align 2 (cap at)))
unfolding extent_of length_of_constant
laid_half at extent =
    rw (half_part, half_item)
    (let nothing : align 2 (cap at) + 0 ≡ align 2 (cap at) = omega arith in
    rw nothing refl)

ds_extent : (name : List ℕ) (state : PassState) → extent_in (ds name) state ≡ extent_at (align 2 (cap (next_in state))) (align 2 (cap (next_in state)) ∷ []) (align 2 (cap (next_in state))) 2 (fault_beyond (align 2 (cap (next_in state))))
ds_extent name state = rw (role_ds name (codes "0H")) (laid_half (next_in state) (pool_extent state.pool))

-- where nothing is at fault its place is the next offset on a boundary of two
ds_at : (line : ℕ) (name : List ℕ) (before : List Item) → (next_state line (ds name) (state_after before)).fault ≡ None
    → extent_in (ds name) (state_after before) ≡ extent_at (align 2 (next_in (state_after before))) (align 2 (next_in (state_after before)) ∷ []) (align 2 (next_in (state_after before))) 2 (fault_beyond (align 2 (next_in (state_after before))))
ds_at line name before sound =
    let at = next_in (state_after before) in
    let small : (extent_in (ds name) (state_after before)).end ≤ bound = statement_within before line (ds name) sound in
    let end : align 2 (cap at) ≤ bound = subst (λ l. l.end ≤ bound) (ds_extent name (state_after before)) small in
    let low : cap at ≤ bound = below (cap at) end in
    subst (λ n. extent_in (ds name) (state_after before) ≡ extent_at (align 2 n) (align 2 n ∷ []) (align 2 n) 2 (fault_beyond (align 2 n)))
    (capped_same at (capped_within at low)) (ds_extent name (state_after before))
  where
    below : (n : ℕ) → align 2 n ≤ bound → n ≤ bound
    below n le = omega (arith, le)

-- the name stands for it
name_value : (line : ℕ) (name symbol : List ℕ) (before : List Item) → symbol_name name ≡ Some symbol → (next_state line (ds name) (state_after before)).fault ≡ None
    → (next_state line (ds name) (state_after before)).symbols symbol ≡ Some (place_value (state_after before).section (align 2 (next_in (state_after before))) 2)
unfolding next_state
name_value line name symbol before named sound =
    let state = state_after before in
    let value = place_value state.section (align 2 (next_in state)) 2 in
    let given : definitions_in (ds name) state ≡ (symbol, value) ∷ [] = rw (ds_at line name before sound, role_ds name (codes "0H"), named) refl in
    let unknown : state.symbols symbol ≡ None =
    none_known state.symbols symbol value (ap (duplicate state.symbols) (sym given) ∙ (sound_statement line (ds name) state sound).definitions) in
    rw (given, unknown, is_name-laws.refl symbol) refl

stands_within : (line : ℕ) (stmt : Stmt) (op : Op) (state : PassState) → role_in stmt ≡ role.Instruction (length_of op) → (next_state line stmt state).fault ≡ None
    → is_control state.section state.control ≡ true
stands_within line stmt op state is sound = go (is_control state.section state.control) (subst (λ r. section_fault r (name_in stmt) state.section state.control ≡ None) is (section_sound stmt state (own_sound line stmt state sound)))
  where
    go : (b : Bool) → cond b None (Some BadOperand) ≡ None → b ≡ true
    go true e = refl
    go false e = absurd (cc)

-- DS 0H stays in its section
same_section : (line : ℕ) (name : List ℕ) (state : PassState) → (next_state line (ds name) state).fault ≡ None
    → (next_state line (ds name) state).section ≡ state.section
same_section line name state sound =
    section_named line (ds name) state sound ∙ ap (λ r. named_section r (name_in (ds name)) state.section) (role_ds name (codes "0H"))

aligned_even : (n : ℕ) → align 2 (align 2 n) ≡ align 2 n
aligned_even n = omega arith

-- and what follows it begins at its place
next_after : (line : ℕ) (name : List ℕ) (before : List Item) (section : List ℕ) → (state_after before).section ≡ Some section → (next_state line (ds name) (state_after before)).fault ≡ None
    → align 2 (next_in (next_state line (ds name) (state_after before))) ≡ align 2 (next_in (state_after before))
unfolding next_state
next_after line name before section e sound =
    let state = state_after before in
    let end = (extent_in (ds name) state).end in
    let lengths = length_after state.section end state.lengths in
    let same : length_of_section (next_state line (ds name) state).section lengths ≡ end =
    ap (λ s. length_of_section s lengths) (same_section line name state sound ∙ e) ∙ section_ends state end section e in
    let place : end ≡ align 2 (next_in state) = ap (λ l. l.end) (ds_at line name before sound) in
    ap (λ n. align 2 (cap n)) same ∙ ap (align 2) (capped_same end (statement_within before line (ds name) sound) ∙ place) ∙ aligned_even (next_in state)

-- ---- a name before an instruction
abbrev Placed : List Item → List ℕ → ℕ → Type 0
Placed items symbol at = (state_after items).symbols symbol ≡ location_counter (state_after items).control at 2

name_stands : (line : ℕ) (name symbol : List ℕ) (more before : List Item) (s : Stmt) (op : Op) → symbol_name name ≡ Some symbol → role_in s ≡ role.Instruction (length_of op)
    → (state_after (more ++ (made_item line s ∷ made_item line (ds name) ∷ before))).fault ≡ None
    → Placed (more ++ (made_item line s ∷ made_item line (ds name) ∷ before)) symbol (extent_in s (state_after (made_item line (ds name) ∷ before))).offset
unfolding made_item
name_stands line name symbol more before s op named is sound = go state.section refl
  where
    state : PassState
    state = state_after before

    after : PassState
    after = next_state line (ds name) state

    last : (next_state line s after).fault ≡ None
    last = fault_kept more (made_item line s ∷ made_item line (ds name) ∷ before) sound

    first : after.fault ≡ None
    first = none_before line s after last

    within : is_control after.section after.control ≡ true
    within = stands_within line s op after is last

    all : List Item
    all = more ++ (made_item line s ∷ made_item line (ds name) ∷ before)

    value : (state_after all).symbols symbol ≡ Some (place_value state.section (align 2 (next_in state)) 2)
    value =
        value_kept more (made_item line s ∷ made_item line (ds name) ∷ before) symbol (place_value state.section (align 2 (next_in state)) 2)
        (value_kept (made_item line s ∷ []) (made_item line (ds name) ∷ before) symbol (place_value state.section (align 2 (next_in state)) 2) (name_value line name symbol before named first))

    go : (section : Option (List ℕ)) → state.section ≡ section → Placed all symbol (extent_in s after).offset
    go None e =
        let none : after.section ≡ None = same_section line name state first ∙ e in
        let no : is_control None after.control ≡ true = subst (λ k. is_control k after.control ≡ true) none within in
        absurd (cc)
    go (Some section) e =
        let there : after.section ≡ Some section = same_section line name state first ∙ e in
        let same : is_control after.section (state_after all).control ≡ true =
        control_same more (made_item line s ∷ made_item line (ds name) ∷ before) after.section (control_same (made_item line s ∷ []) (made_item line (ds name) ∷ before) after.section within) in
        let kept : (state_after all).control ≡ Some section = sym (in_control after.section (state_after all).control same) ∙ there in
        let at : (extent_in s after).offset ≡ align 2 (next_in state) = offset_is s op after is ∙ next_after line name before section e first in
        value ∙ ap (λ k. Some (place_value k (align 2 (next_in state)) 2)) e ∙ sym (ap (λ k. location_counter k (extent_in s after).offset 2) kept ∙ ap (λ n. Some (place_value (Some section) n 2)) at)

-- ---- a call's first instruction
pub record HasFirst (whole : Whole) (bases : Bases) (before : List Item) (at : ℕ) (item : Item) : Type 0 where
  pub instruction : Instruction
  pub resolved : IsResolved whole bases before at item instruction

pub first_of : (whole : Whole) (bases : Bases) (before : List Item) (at : ℕ) (item : Item) (items : List Item) (code : List Instruction)
    → AreResolved whole bases before at (item ∷ items) code → HasFirst whole bases before at item
unfolding AreResolved
first_of whole bases before at item items [] r = absurd r
first_of whole bases before at item items (i ∷ code) r = record { instruction = i; resolved = r.0 }

pub la_role : (operand : List ℕ) → role_in (stmt [] (codes "LA") operand) ≡ role.Instruction (length_of op.La)
unfolding operation_named operations ops operation_row
la_role operand = refl

pub first_offset : (whole : Whole) (bases : Bases) (before : List Item) (at line : ℕ) (s : Stmt) → HasFirst whole bases before at (made_item line s)
    → (extent_in s (state_after before)).offset ≡ at
unfolding made_item
first_offset whole bases before at line s h =
    let r = h.resolved in
    let same : s ≡ r.statement = (let found : Some s ≡ Some r.statement = r.begins in cc) in
    ap (λ k. (extent_in k (state_after before)).offset) same ∙ r.place

turned : (before rest : List Item) (one other : Item) → reverse (before ++ (one ∷ []) ++ (other ∷ rest)) ≡ reverse rest ++ (other ∷ one ∷ reverse before)
turned before rest one other =
    ap (λ k. reverse k) (append_assoc before (one ∷ []) (other ∷ rest)) ∙ reverse-append before (one ∷ other ∷ rest)
    ∙ ap (λ k. k ++ reverse before) (reverse-append (one ∷ other ∷ []) rest) ∙ append_assoc (reverse rest) (other ∷ one ∷ []) (reverse before)

-- the lines of a call after the first
abbrev pub tail_of : ℕ → Command → List Word → List Item
tail_of line command words = drop 1 (lines line (call_statements command words))

pub call_begins : (line : ℕ) (command : Command) (words : List Word) → lines line (call_statements command words) ≡ made_item line (load_of (block_of command words)) ∷ tail_of line command words
unfolding list_of
call_begins line command words = refl

has_label : (c : ℕ) (cs : List ℕ) → label (c ∷ cs) ≡ ds (c ∷ cs) ∷ []
has_label c cs = (let some : (length (c ∷ cs) == 0) ≡ false = grind (arith, nat_tests) in rw some refl)

-- a statement's name
pub named_so : (source : Source) (name : List ℕ) (line : ℕ) (before after : List Item) (command : Command) (words : List Word) (lines_of : List Line)
    → source.items ≡ before ++ lines line (label name) ++ lines line (call_statements command words) ++ after → (final_state source).fault ≡ None
    → (code : StandInCode source (before ++ lines line (label name)) (lines line (call_statements command words)) lines_of) → StandsFor (whole_of source) name code.at
unfolding symbol_name is_symbol_name is_letter
named_so source [] line before after command words lines_of is sound code = λ symbol named. absurd (cc)
named_so source (c ∷ cs) line before after command words lines_of is sound code =
    λ symbol named.
    let name = c ∷ cs in
    let one = made_item line (ds name) in
    let s = load_of (block_of command words) in
    let other = made_item line s in
    let tail = tail_of line command words in
    let labelled : lines line (label name) ≡ one ∷ [] = ap (lines line) (has_label c cs) in
    let bases = bases_in_use source (before ++ lines line (label name)) in
    let turn : reverse (before ++ lines line (label name)) ≡ one ∷ reverse before = ap (λ k. reverse (before ++ k)) labelled ∙ reverse-append before (one ∷ []) in
    let first : HasFirst (whole_of source) bases (one ∷ reverse before) code.at other =
    first_of (whole_of source) bases (one ∷ reverse before) code.at other tail code.code
    (subst (λ k. AreResolved (whole_of source) bases (one ∷ reverse before) code.at k code.code) (call_begins line command words)
    (subst (λ k. AreResolved (whole_of source) bases k code.at (lines line (call_statements command words)) code.code) turn code.resolved)) in
    let at : (extent_in s (state_after (one ∷ reverse before))).offset ≡ code.at = first_offset (whole_of source) bases (one ∷ reverse before) code.at line s first in
    let split : source.items ≡ before ++ (one ∷ []) ++ (other ∷ (tail ++ after)) =
    is ∙ ap (λ k. before ++ k ++ lines line (call_statements command words) ++ after) labelled ∙ ap (λ k. before ++ (one ∷ []) ++ k ++ after) (call_begins line command words) ∙ append_assoc (before ++ (one ∷ [])) (other ∷ tail) after in
    let all : reverse source.items ≡ reverse (tail ++ after) ++ (other ∷ one ∷ reverse before) = ap (λ k. reverse k) split ∙ turned before (tail ++ after) one other in
    let placed : Placed (reverse (tail ++ after) ++ (other ∷ one ∷ reverse before)) symbol (extent_in s (state_after (one ∷ reverse before))).offset =
    name_stands line name symbol (reverse (tail ++ after)) (reverse before) s op.La named (la_role (codes "0," ++ block_of command words)) (subst (λ k. (state_after k).fault ≡ None) all sound) in
    subst (λ n. Placed (reverse source.items) symbol n) at (subst (λ k. Placed k symbol (extent_in s (state_after (one ∷ reverse before))).offset) (sym all) placed)

-- ---- the statements made, in three parts
pub made_split : (line : ℕ) (name : List ℕ) (command : Command) (words : List Word)
    → lines line (made_in name command words) ≡ lines line (label name) ++ lines line (call_statements command words) ++ lines line (map load (pointers_of (row_of_command command).options words))
unfolding made_in
made_split line name command words =
    let list = stores 0 (list_of command words) in
    let rest = call (length (list_of command words) - 1) in
    let loads = map load (pointers_of (row_of_command command).options words) in
    ap (lines line) (ap (λ k. k ++ loads) (append_assoc (label name) list rest))
    ∙ map-append (made_item line) (label name ++ (list ++ rest)) loads ∙ ap (λ k. k ++ lines line loads) (map-append (made_item line) (label name) (list ++ rest))
