-- The first fault, one statement after the other.
use Rattle.std.proofs.Common.{◌≡◌, ◌≤◌, ℕ, true, false, cond, ◌==◌, Option, Some, None, List, [], ◌∷◌, refl, sym, ◌∙◌, ap, subst, inl, inr, arith}
use Rattle.std.specs.Prelude.{is_some}
use Rattle.std.specs.List.{AllByRecursion}
use Rattle.cx_source.specs.declared.source.Item.{Item}
use Rattle.cx_source.specs.declared.source.Stmt.{Stmt}
use Rattle.cx_asm_expressions.specs.Faults.{fault_row}
use Rattle.cx_asm_expressions.specs.Laws.FaultLaws.{IsNotBelow}
use Rattle.cx_asm_expressions.specs.declared.faults.FaultKind.{FaultKind}
use Rattle.cx_asm_expressions.specs.declared.faults.FaultKind.TheVariants.{UnknownOperation, UndefinedSymbol, DuplicateSymbol, NoAddressability, BadOperand, ValueOutOfRange, NotRelocatable, TooLarge}
use Rattle.cx_asm_pass1.specs.PassState.{PassState, next_state, after_line, statement_fault_in, state_after, line_fault}
use Rattle.cx_asm_pass1.specs.Laws.FirstFaults.{Ascend, Fault, NoneBelow, with_fault_at, statement_faults_after, AreSound, HasFault, HasNoLower, BeginOn, IsFirstOf}
use Rattle.cx_asm_pass1.specs.Facts.First.{one_more}
use Rattle.cx_asm_pass1.specs.declared.place.LineFault.{LineFault}

line_more : (line : ℕ) (stmt : Option Stmt) (state : PassState) (before : List Fault) → IsFirstOf before state.fault
    → IsFirstOf (with_fault_at line stmt state before) (after_line line stmt state).fault
unfolding next_state
line_more line None state before h = h
line_more line (Some stmt) state before h = one_more line (statement_fault_in stmt state) before state.fault h

pub first_is_first : (items : List Item) → IsFirstOf (statement_faults_after items) (state_after items).fault
first_is_first [] = tt
first_is_first (item ∷ before) = line_more item.line item.stmt (state_after before) (statement_faults_after before) (first_is_first before)

-- ---- there is one
sound_has_none : (line : ℕ) (kind : FaultKind) (faults : List Fault) → AreSound faults → HasFault line kind faults → ⊥
sound_has_none line kind [] h has = has
sound_has_none line kind (f ∷ fs) h (inl it) = let e : Some kind ≡ None = sym it.1 ∙ h.0 in cc
sound_has_none line kind (f ∷ fs) h (inr it) = sound_has_none line kind fs h.1 it

sound_begins_nowhere : (line : ℕ) (faults : List Fault) → AreSound faults → BeginOn line faults → ⊥
sound_begins_nowhere line [] h begins = begins
sound_begins_nowhere line (f ∷ fs) h (inl it) = sound_begins_nowhere line fs h.1 it
sound_begins_nowhere line (f ∷ fs) h (inr it) = let e : false ≡ true = sym (ap is_some h.0) ∙ it.2 in cc

one_line : (one other : ℕ) (faults : List Fault) → BeginOn one faults → BeginOn other faults → one ≡ other
one_line one other [] a b = absurd a
one_line one other (f ∷ fs) (inl a) (inl b) = one_line one other fs a b
one_line one other (f ∷ fs) (inl a) (inr b) = absurd (sound_begins_nowhere one fs b.0 a)
one_line one other (f ∷ fs) (inr a) (inl b) = absurd (sound_begins_nowhere other fs a.0 b)
one_line one other (f ∷ fs) (inr a) (inr b) = sym a.1 ∙ b.1

none_lower : (line other_line : ℕ) (kind other : FaultKind) (faults : List Fault) → line ≡ other_line → HasNoLower line kind faults → HasFault other_line other faults
    → (fault_row kind).0 ≤ (fault_row other).0
none_lower line other_line kind other [] e h has = absurd has
none_lower line other_line kind other (f ∷ fs) e h (inl it) = subst (IsNotBelow kind) it.1 (h.0 (it.0 ∙ sym e))
none_lower line other_line kind other (f ∷ fs) e h (inr it) = none_lower line other_line kind other fs e h.1 it

kind_at : ℕ → FaultKind
kind_at n = cond (n == 1) UnknownOperation (cond (n == 2) UndefinedSymbol (cond (n == 3) DuplicateSymbol (cond (n == 4) NoAddressability
    (cond (n == 5) BadOperand (cond (n == 6) ValueOutOfRange (cond (n == 7) NotRelocatable TooLarge))))))

kind_of_number : (kind : FaultKind) → kind_at (fault_row kind).0 ≡ kind
unfolding kind_at
kind_of_number UnknownOperation = refl
kind_of_number UndefinedSymbol = refl
kind_of_number DuplicateSymbol = refl
kind_of_number NoAddressability = refl
kind_of_number BadOperand = refl
kind_of_number ValueOutOfRange = refl
kind_of_number NotRelocatable = refl
kind_of_number TooLarge = refl

one_kind : (one other : FaultKind) → (fault_row one).0 ≤ (fault_row other).0 → (fault_row other).0 ≤ (fault_row one).0 → one ≡ other
one_kind one other le ge =
    let same : (fault_row one).0 ≡ (fault_row other).0 = omega (arith, le, ge) in
    sym (kind_of_number one) ∙ ap kind_at same ∙ kind_of_number other

same_fault : (one other : LineFault) → one.line ≡ other.line → one.kind ≡ other.kind → one ≡ other
same_fault one other e k = ap (λ n. line_fault n one.kind) e ∙ ap (λ x. line_fault other.line x) k

pub first_is_one : (faults : List Fault) (one other : Option LineFault) → IsFirstOf faults one → IsFirstOf faults other → one ≡ other
first_is_one faults None None a b = refl
first_is_one faults None (Some other) a b = absurd (sound_has_none other.line other.kind faults a b.has)
first_is_one faults (Some one) None a b = absurd (sound_has_none one.line one.kind faults b a.has)
first_is_one faults (Some one) (Some other) a b =
    let on = one_line one.line other.line faults a.begins b.begins in
    ap Some (same_fault one other on
    (one_kind one.kind other.kind (none_lower one.line other.line one.kind other.kind faults on a.lowest b.has)
    (none_lower other.line one.line other.kind one.kind faults (sym on) b.lowest a.has)))

-- ---- where lines ascend
sound_below : (line : ℕ) (faults : List Fault) → AreSound faults → NoneBelow line faults
sound_below line [] h = tt
sound_below line (f ∷ fs) h = ((λ _. h.0), sound_below line fs h.1)

AreAtMost : ℕ → List Fault → Type 0
AreAtMost line faults = AllByRecursion (λ f. f.0 ≤ line) faults

begun_by : (line most : ℕ) (faults : List Fault) → AreAtMost most faults → BeginOn line faults → line ≤ most
unfolding AreAtMost
begun_by line most [] all begins = absurd begins
begun_by line most (f ∷ fs) all (inl it) = begun_by line most fs all.1 it
begun_by line most (f ∷ fs) all (inr it) = omega (arith, all.0, it.1)

at_most : (most line : ℕ) (stmt : Option Stmt) (state : PassState) (faults : List Fault) → line ≤ most → AreAtMost most faults → AreAtMost most (with_fault_at line stmt state faults)
unfolding AreAtMost
at_most most line None state faults le all = all
at_most most line (Some stmt) state faults le all = (le, all)

faults_at_most : (most : ℕ) (items : List Item) → AllByRecursion (λ earlier. earlier.line ≤ most) items → AreAtMost most (statement_faults_after items)
unfolding AreAtMost
faults_at_most most [] all = tt
faults_at_most most (item ∷ before) all = at_most most item.line item.stmt (state_after before) (statement_faults_after before) all.0 (faults_at_most most before all.1)

below_line : (first line : ℕ) (stmt : Option Stmt) (state : PassState) (faults : List Fault) → AreAtMost line faults → (BeginOn first faults → NoneBelow first faults)
    → BeginOn first (with_fault_at line stmt state faults) → NoneBelow first (with_fault_at line stmt state faults)
below_line first line None state faults most h begins = h begins
below_line first line (Some stmt) state faults most h (inl it) = ((λ lower. let le : first ≤ line = begun_by first line faults most it in absurd (omega (arith, le, lower))), h it)
below_line first line (Some stmt) state faults most h (inr it) = ((λ lower. let e : line ≡ first = it.1 in absurd (omega (arith, e, lower))), sound_below first faults it.0)

begun_below : (first : ℕ) (items : List Item) → Ascend items → BeginOn first (statement_faults_after items) → NoneBelow first (statement_faults_after items)
begun_below first [] ascend begins = tt
begun_below first (item ∷ before) ascend begins =
    below_line first item.line item.stmt (state_after before) (statement_faults_after before) (faults_at_most item.line before ascend.0) (begun_below first before ascend.1) begins

pub none_below : (items : List Item) (first : LineFault) → Ascend items → (state_after items).fault ≡ Some first → NoneBelow first.line (statement_faults_after items)
none_below items first ascend e =
    let is : IsFirstOf (statement_faults_after items) (Some first) = subst (IsFirstOf (statement_faults_after items)) e (first_is_first items) in
    begun_below first.line items ascend is.begins
