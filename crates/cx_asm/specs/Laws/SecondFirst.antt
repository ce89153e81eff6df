-- What the second pass' first fault is the first of (own).
use Rattle.std.specs.Prelude.{List, [], ◌∷◌, length}
use Rattle.cx_asm_pass1.specs.Laws.FirstFaults.{Fault}
use Rattle.cx_asm_pass2.specs.SecondFaults.{bases_after_all, second_fault}
use Rattle.cx_asm_pass2.specs.Statements.{PlacedStatement}
use Rattle.cx_asm_pass2.specs.Whole.{Whole}

-- each statement's line, and its lowest fault of the second pass; the latest first
abbrev pub faults_by_statement : Whole → List PlacedStatement → List Fault
faults_by_statement whole [] = []
faults_by_statement whole (s ∷ before) =
    (s.line, second_fault whole (bases_after_all whole before) (length before) s) ∷ faults_by_statement whole before
