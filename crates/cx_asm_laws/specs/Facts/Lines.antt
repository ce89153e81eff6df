-- The lines of an accepted source, from one on: no fault, the control section, and the statements in their order.
use Rattle.std.specs.Prelude.{option_map, reverse}
use Rattle.std.proofs.Common.{◌≡◌, ℕ, Bool, true, false, cond, ◌==◌, Option, Some, None, List, [], ◌∷◌, ◌++◌, length, refl, sym, ◌∙◌, ap}
use Rattle.std.specs.List.{filter_map}
use Rattle.std.specs.Result.{result_err}
use Rattle.std.proofs.lemmas.List.{append_assoc, append-nil, reverse-append}
use Rattle.std.proofs.lemmas.List.Elements.{filter_map-append}
use Rattle.cx_source.specs.declared.source.Item.{Item}
use Rattle.cx_source.specs.declared.source.Source.{Source}
use Rattle.cx_source.specs.declared.source.Stmt.{Stmt}
use Rattle.cx_asm_expressions.specs.Faults.{lower, lowest}
use Rattle.cx_asm_expressions.specs.declared.faults.FaultKind.{FaultKind}
use Rattle.cx_asm_pass1.specs.Facts.Apart.{control_kept, in_control}
use Rattle.cx_asm_pass1.specs.Facts.Faults.{none_before}
use Rattle.cx_asm_pass1.specs.Facts.StatementExtents.{lower_none}
use Rattle.cx_asm_pass1.specs.PassState.{PassState, next_state, after_line, duplicate_in, statement_fault_in, first_fault_after, given_in, is_control, literal_fault, name_fault, operation_fault, control_after, state_after, extent_in, line_fault, own_fault, parts_in, role_in, section_fault, name_in, place_in}
use Rattle.cx_asm_pass1.specs.declared.place.LineFault.{LineFault}
use Rattle.cx_asm_pass1.specs.declared.place.Place.{Place}
use Rattle.cx_asm_pass2.specs.Statements.{PlacedItem, PlacedStatement, placed_latest_first, placed_of, stated_in, statements_of}

-- ---- the statements of lines, in their order, with their places; `before` are the lines before them, the latest first
abbrev pub placed_item : Item → Option Place → PlacedItem
placed_item item place = record { item = item; place = place }

abbrev pub place_for : Option Stmt → PassState → Option Place
place_for stmt state = option_map (λ s. place_in s state) stmt

abbrev pub placed_items_from : List Item → List Item → List PlacedItem
placed_items_from before [] = []
placed_items_from before (item ∷ items) = placed_item item (place_for item.stmt (state_after before)) ∷ placed_items_from (item ∷ before) items

abbrev pub statements_from : List Item → List Item → List PlacedStatement
statements_from before items = filter_map stated_in (placed_items_from before items)

-- ---- lists
pub reverse_cons : {X : Type 0} (x : X) (xs : List X) → reverse (x ∷ xs) ≡ reverse xs ++ (x ∷ [])
reverse_cons x xs = reverse-append (x ∷ []) xs

pub reverse_step : {X : Type 0} (x : X) (xs before : List X) → reverse (x ∷ xs) ++ before ≡ reverse xs ++ (x ∷ before)
reverse_step x xs before = ap (λ k. k ++ before) (reverse_cons x xs) ∙ append_assoc (reverse xs) (x ∷ []) before

placed_turned : (xs before : List Item) → reverse (placed_latest_first (reverse xs ++ before)) ≡ reverse (placed_latest_first before) ++ placed_items_from before xs
placed_turned [] before = sym (append-nil (reverse (placed_latest_first before)))
placed_turned (x ∷ xs) before =
    let p = placed_item x (place_for x.stmt (state_after before)) in
    ap (λ k. reverse (placed_latest_first k)) (reverse_step x xs before) ∙ placed_turned xs (x ∷ before)
    ∙ ap (λ k. k ++ placed_items_from (x ∷ before) xs) (reverse_cons p (placed_latest_first before))
    ∙ append_assoc (reverse (placed_latest_first before)) (p ∷ []) (placed_items_from (x ∷ before) xs)

pub statements_are : (source : Source) → statements_of source ≡ statements_from [] source.items
unfolding placed_of
statements_are source =
    ap (filter_map stated_in) (ap (λ k. reverse (placed_latest_first k)) (sym (append-nil (reverse source.items))) ∙ placed_turned source.items [])

-- lists of lines, one after the other
placed_joined : (xs ys before : List Item) → placed_items_from before (xs ++ ys) ≡ placed_items_from before xs ++ placed_items_from (reverse xs ++ before) ys
placed_joined [] ys before = refl
placed_joined (x ∷ xs) ys before =
    ap (λ k. placed_item x (place_for x.stmt (state_after before)) ∷ k) (placed_joined xs ys (x ∷ before)
    ∙ ap (λ k. placed_items_from (x ∷ before) xs ++ placed_items_from k ys) (sym (reverse_step x xs before)))

pub statements_joined : (xs ys before : List Item) → statements_from before (xs ++ ys) ≡ statements_from before xs ++ statements_from (reverse xs ++ before) ys
statements_joined xs ys before =
    ap (filter_map stated_in) (placed_joined xs ys before) ∙ filter_map-append stated_in (placed_items_from before xs) (placed_items_from (reverse xs ++ before) ys)

pub none_first : (line : ℕ) (fault : Option FaultKind) (first : Option LineFault) → first_fault_after line fault first ≡ None → (first ≡ None) × (fault ≡ None)
none_first line None None e = (refl, refl)
none_first line (Some fault) None e = absurd (cc)
none_first line fault (Some first) e = absurd (some_stays (line == first.line) (lower (Some first.kind) fault) refl e)
  where
    some_stays : (test : Bool) (both : Option FaultKind) → lower (Some first.kind) fault ≡ both → cond test (option_map (line_fault first.line) both) (Some first) ≡ None → ⊥
    some_stays true None is e = never fault is
      where
        never : (other : Option FaultKind) → lower (Some first.kind) other ≡ None → ⊥
        never None e = cc
        never (Some f) e = cc
    some_stays true (Some f) is e = cc
    some_stays false both is e = cc

-- its fault in the first pass, part by part
pub section_sound : (stmt : Stmt) (state : PassState) → own_fault stmt state ≡ None → section_fault (role_in stmt) (name_in stmt) state.section state.control ≡ None
section_sound stmt state e =
    let operated = lower_none (operation_fault (role_in stmt)) (lowest (name_fault (role_in stmt) stmt.name ∷ section_fault (role_in stmt) (name_in stmt) state.section state.control
    ∷ (extent_in stmt state).fault ∷ result_err (given_in stmt state) ∷ duplicate_in stmt state ∷ [])) e in
    let titled = lower_none (name_fault (role_in stmt) stmt.name) (lowest (section_fault (role_in stmt) (name_in stmt) state.section state.control
    ∷ (extent_in stmt state).fault ∷ result_err (given_in stmt state) ∷ duplicate_in stmt state ∷ [])) operated.1 in
    (lower_none (section_fault (role_in stmt) (name_in stmt) state.section state.control)
    (lowest ((extent_in stmt state).fault ∷ result_err (given_in stmt state) ∷ duplicate_in stmt state ∷ [])) titled.1).0

pub own_sound : (line : ℕ) (stmt : Stmt) (state : PassState) → (next_state line stmt state).fault ≡ None → own_fault stmt state ≡ None
unfolding next_state
own_sound line stmt state e =
    (lower_none (own_fault stmt state) (literal_fault (role_in stmt) (length state.places) (parts_in stmt) state.pool) (none_first line (statement_fault_in stmt state) state.fault e).1).0

-- ---- the lines that follow leave the control section, and have no fault
control_line : (line : ℕ) (stmt : Option Stmt) (state : PassState) (name : List ℕ) → state.control ≡ Some name → (after_line line stmt state).control ≡ Some name
unfolding next_state
control_line line None state name e = e
control_line line (Some stmt) state name e =
    ap (control_after (role_in stmt) (name_in stmt) state.section) e ∙ control_kept (role_in stmt) (name_in stmt) state.section name

control_stays : (more before : List Item) (name : List ℕ) → (state_after before).control ≡ Some name → (state_after (more ++ before)).control ≡ Some name
control_stays [] before name e = e
control_stays (item ∷ more) before name e = control_line item.line item.stmt (state_after (more ++ before)) name (control_stays more before name e)

pub control_same : (more before : List Item) (section : Option (List ℕ)) → is_control section (state_after before).control ≡ true → is_control section (state_after (more ++ before)).control ≡ true
control_same more before None e = absurd (cc)
control_same more before (Some name) e =
    let same : (state_after before).control ≡ Some name = sym (in_control (Some name) (state_after before).control e) in
    ap (is_control (Some name)) (control_stays more before name same ∙ sym same) ∙ e

fault_line : (line : ℕ) (stmt : Option Stmt) (state : PassState) → (after_line line stmt state).fault ≡ None → state.fault ≡ None
fault_line line None state e = e
fault_line line (Some s) state e = none_before line s state e

pub fault_kept : (more before : List Item) → (state_after (more ++ before)).fault ≡ None → (state_after before).fault ≡ None
fault_kept [] before e = e
fault_kept (item ∷ more) before e = fault_kept more before (fault_line item.line item.stmt (state_after (more ++ before)) e)
