-- What the first fault of lines is (own).
use Rattle.std.specs.Prelude.{◌≡◌, ◌≤◌, ◌<◌, ◌⊎◌, ℕ, Option, Some, None, is_some, true, List, [], ◌∷◌}
use Rattle.std.specs.List.{AllByRecursion}
use Rattle.cx_source.specs.declared.source.Item.{Item}
use Rattle.cx_source.specs.declared.source.Stmt.{Stmt}
use Rattle.cx_asm_expressions.specs.Laws.FaultLaws.{IsNotBelow}
use Rattle.cx_asm_expressions.specs.declared.faults.FaultKind.{FaultKind}
use Rattle.cx_asm_pass1.specs.PassState.{PassState, statement_fault_in, state_after}
use Rattle.cx_asm_pass1.specs.declared.place.LineFault.{LineFault}

-- a statement's line, and its lowest fault
abbrev pub Fault : Type 0
Fault = ℕ × Option FaultKind

-- those of the statements of lines, the latest first
abbrev pub with_fault_at : ℕ → Option Stmt → PassState → List Fault → List Fault
with_fault_at line None state faults = faults
with_fault_at line (Some stmt) state faults = (line, statement_fault_in stmt state) ∷ faults

abbrev pub statement_faults_after : List Item → List Fault
statement_faults_after [] = []
statement_faults_after (item ∷ before) =
    with_fault_at item.line item.stmt (state_after before) (statement_faults_after before)

abbrev pub AreSound : List Fault → Type 0
AreSound faults = AllByRecursion (λ fault. fault.1 ≡ None) faults

-- some statement of the line has the fault
abbrev pub HasFault : ℕ → FaultKind → List Fault → Type 0
HasFault line kind [] = ⊥
HasFault line kind (fault ∷ before) = ((fault.0 ≡ line) × (fault.1 ≡ Some kind)) ⊎ HasFault line kind before

-- none of that line has one with a lower number
abbrev pub HasNoLower : ℕ → FaultKind → List Fault → Type 0
HasNoLower line kind faults = AllByRecursion (λ fault. fault.0 ≡ line → IsNotBelow kind fault.1) faults

-- The first statement that has a fault is on the line.
abbrev pub BeginOn : ℕ → List Fault → Type 0
BeginOn line [] = ⊥
BeginOn line (fault ∷ before) = BeginOn line before ⊎ (AreSound before × (fault.0 ≡ line) × (is_some fault.1 ≡ true))

pub record IsFirst (faults : List Fault) (first : LineFault) : Type 0 where
  pub begins : BeginOn first.line faults
  pub has : HasFault first.line first.kind faults
  pub lowest : HasNoLower first.line first.kind faults

abbrev pub IsFirstOf : List Fault → Option LineFault → Type 0
IsFirstOf faults None = AreSound faults
IsFirstOf faults (Some first) = IsFirst faults first

-- ---- lines that ascend
-- no earlier line has a higher number; the lines the latest first
abbrev pub Ascend : List Item → Type 0
Ascend [] = Unit {0}
Ascend (item ∷ before) = AllByRecursion (λ earlier. earlier.line ≤ item.line) before × Ascend before

-- no statement of a lower line has a fault
abbrev pub NoneBelow : ℕ → List Fault → Type 0
NoneBelow line faults = AllByRecursion (λ fault. fault.0 < line → fault.1 ≡ None) faults
