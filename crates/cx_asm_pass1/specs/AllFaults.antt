-- The faults of all lines: of each the lowest, where the line's first one was met (own).
use Rattle.std.specs.Prelude.{ℕ, ◌==◌, if◌then◌else◌, Option, Some, None, option_and_then, List, [], ◌∷◌, reverse}
use Rattle.cx_source.specs.declared.source.Item.{Item}
use Rattle.cx_source.specs.declared.source.Source.{Source}
use Rattle.cx_asm_expressions.specs.Faults.{lower_of}
use Rattle.cx_asm_expressions.specs.declared.faults.FaultKind.{FaultKind}
use Rattle.cx_asm_pass1.specs.PassState.{statement_fault_in, state_after, line_fault}
use Rattle.cx_asm_pass1.specs.declared.place.LineFault.{LineFault}

-- A fault of a line goes last, or where the line has one already into its place, if it is lower.
abbrev pub with_fault : ℕ → Option FaultKind → List LineFault → List LineFault
with_fault line None faults = faults
with_fault line (Some kind) [] = line_fault line kind ∷ []
with_fault line (Some kind) (fault ∷ more) =
    if line == fault.line then line_fault fault.line (lower_of fault.kind kind) ∷ more
    else fault ∷ with_fault line (Some kind) more

-- the lowest faults of the statements that begin on lines, the latest first
abbrev pub faults_after : List Item → List LineFault
faults_after [] = []
faults_after (item ∷ before) =
    with_fault item.line (option_and_then (λ stmt. statement_fault_in stmt (state_after before)) item.stmt)
    (faults_after before)

abbrev pub place_faults : Source → List LineFault
place_faults source = faults_after (reverse source.items)
