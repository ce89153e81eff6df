-- The first of all faults is the first fault.
use Rattle.std.specs.Prelude.{option_and_then}
use Rattle.std.proofs.Common.{◌≡◌, ℕ, Bool, true, false, cond, ◌==◌, Option, Some, None, List, [], ◌∷◌, slice_get, refl, ◌∙◌, ap}
use Rattle.cx_source.specs.declared.source.Item.{Item}
use Rattle.cx_source.specs.declared.source.Stmt.{Stmt}
use Rattle.cx_asm_expressions.specs.Faults.{lower_of}
use Rattle.cx_asm_expressions.specs.declared.faults.FaultKind.{FaultKind}
use Rattle.cx_asm_pass1.specs.AllFaults.{faults_after, with_fault}
use Rattle.cx_asm_pass1.specs.PassState.{PassState, next_state, after_line, statement_fault_in, first_fault_after, state_after, line_fault}
use Rattle.cx_asm_pass1.specs.declared.place.LineFault.{LineFault}

kept_first : (is : Bool) (first : LineFault) → Some first ≡ cond is (Some (line_fault first.line first.kind)) (Some first)
kept_first true first = refl
kept_first false first = refl

lowered_first : (is : Bool) (kind : FaultKind) (first : LineFault) (more rest : List LineFault)
    → slice_get (cond is (line_fault first.line (lower_of first.kind kind) ∷ more) (first ∷ rest)) 0
    ≡ cond is (Some (line_fault first.line (lower_of first.kind kind))) (Some first)
lowered_first true kind first more rest = refl
lowered_first false kind first more rest = refl

pub first_with_fault : (line : ℕ) (fault : Option FaultKind) (faults : List LineFault)
    → slice_get (with_fault line fault faults) 0 ≡ first_fault_after line fault (slice_get faults 0)
first_with_fault line None [] = refl
first_with_fault line (Some kind) [] = refl
first_with_fault line None (first ∷ more) = kept_first (line == first.line) first
first_with_fault line (Some kind) (first ∷ more) = lowered_first (line == first.line) kind first more (with_fault line (Some kind) more)

line_more : (line : ℕ) (stmt : Option Stmt) (state : PassState) (faults : List LineFault) → slice_get faults 0 ≡ state.fault
    → slice_get (with_fault line (option_and_then (λ s. statement_fault_in s state) stmt) faults) 0 ≡ (after_line line stmt state).fault
unfolding next_state
line_more line None state faults e = e
line_more line (Some stmt) state faults e =
    first_with_fault line (statement_fault_in stmt state) faults ∙ ap (λ (o : Option LineFault). first_fault_after line (statement_fault_in stmt state) o) e

pub first_of_faults : (items : List Item) → slice_get (faults_after items) 0 ≡ (state_after items).fault
first_of_faults [] = refl
first_of_faults (item ∷ before) = line_more item.line item.stmt (state_after before) (faults_after before) (first_of_faults before)
