-- What is in a section doesn't overlap, one statement after the other.
use Rattle.std.proofs.Common.{◌≡◌, ◌≤◌, ℕ, Bool, true, false, cond, Option, Some, None, List, [], ◌∷◌, refl, sym, ◌∙◌, ap, subst, ⊎_elim, arith}
use Rattle.std.specs.List.{AllByRecursion}
use Rattle.std.proofs.lemmas.Bool.{cases_Bool, cond-true}
use Rattle.cx_ebcdic.specs.Facts.Names.{is_name-decides, is_name-laws}
use Rattle.cx_source.specs.declared.source.Item.{Item}
use Rattle.cx_source.specs.declared.source.Stmt.{Stmt}
use Rattle.cx_asm_expressions.specs.Digits.{bound}
use Rattle.cx_asm_expressions.specs.Weights.{stands_in}
use Rattle.cx_asm_pools.specs.Facts.Literals.{no_pool, pool_more}
use Rattle.cx_asm_pools.specs.Laws.Literals.{IsPool}
use Rattle.cx_asm_pools.specs.Pools.{OpenLiterals, cap, pool_extent}
use Rattle.cx_asm_pass1.specs.Facts.Faults.{none_before, sound_statement}
use Rattle.cx_asm_pass1.specs.Facts.StatementExtents.{capped_same, extent_begins, extent_stands, extent_within, pool_apart, pool_begins}
use Rattle.cx_asm_pass1.specs.PassState.{PassState, next_state, after_line, control_after, control_or_blank, named_control, is_astray, is_control, state_after, extent_in, length_after, length_of_section, name_in, next_in, parts_in, pool_after, role_in}
use Rattle.cx_asm_pass1.specs.Laws.Apart.{AreApart, ClosesApart, EndWithin, ComesAfter, Stands, Stretch, control_length, section_length, stretch_before, stretch_of, stretches_after}
use Rattle.cx_asm_pass1.specs.Locations.{last_pool_extent}
use Rattle.cx_asm_pass1.specs.declared.roles.Role.{Role}
use Rattle.cx_asm_pass1.specs.declared.roles.Role.TheVariants.{Unknown, Instruction, Control, Dummy, Equate, Storage, Pool, Registers, Member, Nothing}

-- ---- the open pool
pool_step : (role : Role) (user : ℕ) (operands : List (List ℕ)) (pool : OpenLiterals) → IsPool pool → IsPool (pool_after role user operands pool)
pool_step (Instruction size) user operands pool h = pool_more user pool operands h
pool_step Pool user operands pool h = no_pool
pool_step Unknown user operands pool h = h
pool_step Control user operands pool h = h
pool_step Dummy user operands pool h = h
pool_step Equate user operands pool h = h
pool_step (Storage is_ds) user operands pool h = h
pool_step Registers user operands pool h = h
pool_step Member user operands pool h = h
pool_step Nothing user operands pool h = h

pool_line : (line : ℕ) (stmt : Option Stmt) (state : PassState) → IsPool state.pool → IsPool (after_line line stmt state).pool
unfolding next_state
pool_line line None state h = h
pool_line line (Some stmt) state h = pool_step (role_in stmt) _ (parts_in stmt) state.pool h

pub pool_of_lines : (items : List Item) → IsPool (state_after items).pool
pool_of_lines [] = no_pool
pool_of_lines (item ∷ before) = pool_line item.line item.stmt (state_after before) (pool_of_lines before)

-- ---- lengths
within_section : (state : PassState) (section : Option (List ℕ)) → ((name : List ℕ) → state.lengths name ≤ bound) → length_of_section section state.lengths ≤ bound
within_section state None h = omega arith
within_section state (Some name) h = h name

next_is : (state : PassState) → ((name : List ℕ) → state.lengths name ≤ bound) → next_in state ≡ section_length state
next_is state h = capped_same (section_length state) (within_section state state.section h)

end_within : (line : ℕ) (stmt : Stmt) (state : PassState) → ((name : List ℕ) → state.lengths name ≤ bound) → (next_state line stmt state).fault ≡ None → (extent_in stmt state).end ≤ bound
end_within line stmt state h e =
    extent_within (role_in stmt) (parts_in stmt) (pool_extent state.pool) (next_in state)
    (omega (arith, next_is state h, within_section state state.section h)) (sound_statement line stmt state e).extent

cond_within : (test : Bool) (a b : ℕ) → a ≤ bound → b ≤ bound → cond test a b ≤ bound
cond_within true a b h k = h
cond_within false a b h k = k

lengths_step : (line : ℕ) (stmt : Stmt) (state : PassState) → ((name : List ℕ) → state.lengths name ≤ bound) → (next_state line stmt state).fault ≡ None
    → (name : List ℕ) → length_after state.section (extent_in stmt state).end state.lengths name ≤ bound
lengths_step line stmt state h e name = cond_within (stands_in name state.section) (extent_in stmt state).end (state.lengths name) (end_within line stmt state h e) (h name)

within_line : (line : ℕ) (stmt : Option Stmt) (state : PassState) → (state.fault ≡ None → (name : List ℕ) → state.lengths name ≤ bound) → (after_line line stmt state).fault ≡ None
    → (name : List ℕ) → (after_line line stmt state).lengths name ≤ bound
unfolding next_state
within_line line None state h e = h e
within_line line (Some stmt) state h e = lengths_step line stmt state (h (none_before line stmt state e)) e

-- no section goes beyond the bound
pub within_after : (items : List Item) → (state_after items).fault ≡ None → (name : List ℕ) → (state_after items).lengths name ≤ bound
within_after [] e = λ name. omega arith
within_after (item ∷ before) e = within_line item.line item.stmt (state_after before) (within_after before) e

-- ---- one statement more
module _ (before : List Item) (line : ℕ) (stmt : Stmt) (sound : (next_state line stmt (state_after before)).fault ≡ None) where
  lengths_within : (name : List ℕ) → (state_after before).lengths name ≤ bound
  lengths_within = within_after before (none_before line stmt (state_after before) sound)

  -- it ends within the bound
  pub statement_within : (extent_in stmt (state_after before)).end ≤ bound
  statement_within = end_within line stmt (state_after before) lengths_within sound

  -- what it has lies from its section's length so far to its end
  pub statement_stands : Stands (role_in stmt) (parts_in stmt) (state_after before).pool (section_length (state_after before)) (extent_in stmt (state_after before))
  statement_stands = extent_stands (role_in stmt) (parts_in stmt) (state_after before).pool (section_length (state_after before)) (pool_of_lines before) statement_within

  -- it begins at or past that length, and ends at or past its beginning
  pub statement_begins : (section_length (state_after before) ≤ (extent_in stmt (state_after before)).offset)
      × ((extent_in stmt (state_after before)).offset ≤ (extent_in stmt (state_after before)).end)
  statement_begins =
      let order = extent_begins (role_in stmt) (parts_in stmt) (pool_extent (state_after before).pool) (next_in (state_after before)) statement_within in
      (omega (arith, order.0, next_is (state_after before) lengths_within), order.1)

-- ---- sections
same_section : (name : List ℕ) (section : Option (List ℕ)) → stands_in name section ≡ true → section ≡ Some name
same_section name None e = cc
same_section name (Some other) e = ap Some (sym ((is_name-decides name other).0 e))

own_section : (name : List ℕ) (section : Option (List ℕ)) → section ≡ Some name → stands_in name section ≡ true
own_section name section e = ap (stands_in name) e ∙ is_name-laws.refl name

-- a section that a statement is in is as long afterwards as its end
pub section_ends : (state : PassState) (end : ℕ) (name : List ℕ) → state.section ≡ Some name → length_after state.section end state.lengths name ≡ end
section_ends state end name e = cond-true _ _ _ (own_section name state.section e)

longer : (section : Option (List ℕ)) (lengths : List ℕ → ℕ) (end : ℕ) (name : List ℕ) → length_of_section section lengths ≤ end → lengths name ≤ length_after section end lengths name
longer section lengths end name le = ⊎_elim
    (λ yes. rw yes (subst (λ s. length_of_section s lengths ≤ end) (same_section name section yes) le))
    (λ no. rw no (omega arith))
    (cases_Bool (stands_in name section))

-- no section gets shorter
pub lengths_grow : (before : List Item) (line : ℕ) (stmt : Stmt) → (next_state line stmt (state_after before)).fault ≡ None → (name : List ℕ)
    → (state_after before).lengths name ≤ (next_state line stmt (state_after before)).lengths name
unfolding next_state
lengths_grow before line stmt sound name =
    let order = statement_begins before line stmt sound in
    longer (state_after before).section (state_after before).lengths (extent_in stmt (state_after before)).end name (omega (arith, order.0, order.1))

named_kept : (role : Role) (name : Option (List ℕ)) (control : List ℕ) → named_control role name (Some control) ≡ Some control
named_kept Control name control = refl
named_kept (Instruction size) name control = refl
named_kept Pool name control = refl
named_kept Unknown name control = refl
named_kept Dummy name control = refl
named_kept Equate name control = refl
named_kept (Storage is_ds) name control = refl
named_kept Registers name control = refl
named_kept Member name control = refl
named_kept Nothing name control = refl

astray_kept : (astray : Bool) (control : List ℕ) (named : Option (List ℕ)) → named ≡ Some control → cond astray (control_or_blank (Some control)) named ≡ Some control
astray_kept true control named e = refl
astray_kept false control named e = e

-- the control section stays
pub control_kept : (role : Role) (name section : Option (List ℕ)) (control : List ℕ) → control_after role name section (Some control) ≡ Some control
control_kept role name section control =
    astray_kept (is_astray role name section (Some control)) control (named_control role name (Some control)) (named_kept role name control)

control_longer : (role : Role) (name section control : Option (List ℕ)) (one other : List ℕ → ℕ) → ((n : List ℕ) → one n ≤ other n)
    → length_of_section control one ≤ length_of_section (control_after role name section control) other
control_longer role name section None one other h = omega arith
control_longer role name section (Some control) one other h =
    subst (λ c. one control ≤ length_of_section c other) (sym (control_kept role name section control)) (h control)

-- nor does the control section
pub control_grows : (before : List Item) (line : ℕ) (stmt : Stmt) → (next_state line stmt (state_after before)).fault ≡ None
    → control_length (state_after before) ≤ control_length (next_state line stmt (state_after before))
unfolding next_state
control_grows before line stmt sound =
    control_longer (role_in stmt) (name_in stmt) (state_after before).section (state_after before).control (state_after before).lengths (next_state line stmt (state_after before)).lengths (lengths_grow before line stmt sound)

pub in_control : (section control : Option (List ℕ)) → is_control section control ≡ true → section ≡ control
in_control None control e = cc
in_control (Some section) control e = sym (same_section section control e)

ends_control : (role : Role) (name : Option (List ℕ)) (state : PassState) (end : ℕ) (section : Option (List ℕ)) → state.section ≡ section → is_control section state.control ≡ true
    → length_of_section (control_after role name state.section state.control) (length_after state.section end state.lengths) ≡ end
ends_control role name state end None e is = cc
ends_control role name state end (Some section) e is =
    ap (λ c. length_of_section (control_after role name state.section c) (length_after state.section end state.lengths)) (same_section section state.control is)
    ∙ ap (λ c. length_of_section c (length_after state.section end state.lengths)) (control_kept role name state.section section)
    ∙ section_ends state end section e

-- after a statement of it the control section is as long as that statement's end
pub control_ends : (line : ℕ) (stmt : Stmt) (state : PassState) → is_control state.section state.control ≡ true → control_length (next_state line stmt state) ≡ (extent_in stmt state).end
unfolding next_state
control_ends line stmt state is = ends_control (role_in stmt) (name_in stmt) state (extent_in stmt state).end state.section refl is

-- ---- all statements
AreInside : PassState → List Stretch → Type 0
AreInside state stretches = AllByRecursion (λ stretch. (name : List ℕ) → stretch.section ≡ Some name → stretch.end ≤ state.lengths name) stretches

still_inside : (one other : PassState) (stretches : List Stretch) → ((name : List ℕ) → one.lengths name ≤ other.lengths name) → AreInside one stretches → AreInside other stretches
unfolding AreInside
still_inside one other [] h all = tt
still_inside one other (stretch ∷ stretches) h all = ((λ name e. omega (arith, h name, all.0 name e)), still_inside one other stretches h all.1)

new_inside : (line : ℕ) (stmt : Stmt) (state : PassState) (name : List ℕ) → state.section ≡ Some name → (extent_in stmt state).end ≤ (next_state line stmt state).lengths name
unfolding next_state
new_inside line stmt state name e = omega (arith, section_ends state (extent_in stmt state).end name e)

inside_line : (before : List Item) (line : ℕ) (stmt : Option Stmt) (stretches : List Stretch) → (after_line line stmt (state_after before)).fault ≡ None
    → ((state_after before).fault ≡ None → AreInside (state_after before) stretches) → AreInside (after_line line stmt (state_after before)) (stretch_before stmt (state_after before) stretches)
unfolding AreInside
inside_line before line None stretches e h = h e
inside_line before line (Some stmt) stretches e h = (
  new_inside line stmt (state_after before),
  still_inside (state_after before) (next_state line stmt (state_after before)) stretches (lengths_grow before line stmt e) (h (none_before line stmt (state_after before) e)),
)

inside_after : (items : List Item) → (state_after items).fault ≡ None → AreInside (state_after items) (stretches_after items)
unfolding AreInside
inside_after [] e = tt
inside_after (item ∷ before) e = inside_line before item.line item.stmt (stretches_after before) e (inside_after before)

after_all : (state : PassState) (later : Stretch) (stretches : List Stretch) → later.section ≡ state.section → section_length state ≤ later.offset → AreInside state stretches
    → AllByRecursion (ComesAfter later) stretches
unfolding AreInside
after_all state later [] e le all = tt
after_all state later (stretch ∷ stretches) e le all = (
  (λ name own other. omega (arith, all.0 name other, subst (λ s. length_of_section s state.lengths ≤ later.offset) (sym e ∙ own) le)),
  after_all state later stretches e le all.1,
)

apart_line : (before : List Item) (line : ℕ) (stmt : Option Stmt) → (after_line line stmt (state_after before)).fault ≡ None
    → ((state_after before).fault ≡ None → AreApart (stretches_after before)) → AreApart (stretch_before stmt (state_after before) (stretches_after before))
apart_line before line None e h = h e
apart_line before line (Some stmt) e h =
    let order = statement_begins before line stmt e in
    let none = none_before line stmt (state_after before) e in
    (order.1, after_all (state_after before) (stretch_of stmt (state_after before)) (stretches_after before) refl order.0 (inside_after before none), h none)

pub apart_after : (items : List Item) → (state_after items).fault ≡ None → AreApart (stretches_after items)
apart_after [] e = tt
apart_after (item ∷ before) e = apart_line before item.line item.stmt e (apart_after before)

-- ---- the control section's end
pub closing_begins : (items : List Item) → (state_after items).fault ≡ None
    → (control_length (state_after items) ≤ (last_pool_extent (state_after items)).offset) × ((last_pool_extent (state_after items)).offset ≤ (last_pool_extent (state_after items)).end)
closing_begins items e =
    let order = pool_begins [] (pool_extent (state_after items).pool) (cap (control_length (state_after items))) in
    let same = capped_same (control_length (state_after items)) (within_section (state_after items) (state_after items).control (within_after items e)) in
    (omega (arith, order.0, same), order.1)

pub closing_apart : (items : List Item) → (state_after items).fault ≡ None → (last_pool_extent (state_after items)).end ≤ bound → ClosesApart (state_after items)
closing_apart items e within =
    record {
      begins = (closing_begins items e).0;
      literals = pool_apart [] (state_after items).pool (cap (control_length (state_after items))) (pool_of_lines items) within;
    }

ends_inside : (state : PassState) (section control : Option (List ℕ)) (end most : ℕ) → ((name : List ℕ) → section ≡ Some name → end ≤ state.lengths name)
    → length_of_section control state.lengths ≤ most → is_control section control ≡ true → end ≤ most
ends_inside state None control end most h le is = cc
ends_inside state (Some section) control end most h le is =
    omega (arith, h section refl, subst (λ c. length_of_section c state.lengths ≤ most) (same_section section control is) le)

all_end : (state : PassState) (stretches : List Stretch) → control_length state ≤ (last_pool_extent state).end → AreInside state stretches → EndWithin state stretches
unfolding AreInside
all_end state [] le all = tt
all_end state (stretch ∷ stretches) le all = (ends_inside state stretch.section state.control stretch.end (last_pool_extent state).end all.0 le, all_end state stretches le all.1)

pub end_within_control : (items : List Item) → (state_after items).fault ≡ None → EndWithin (state_after items) (stretches_after items)
end_within_control items e =
    let order = closing_begins items e in
    all_end (state_after items) (stretches_after items) (omega (arith, order.0, order.1)) (inside_after items e)
