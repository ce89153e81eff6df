-- The first fault of the second pass, one statement after the other.
use Rattle.std.proofs.Common.{List, [], ◌∷◌, length, slice_get, subst, sym}
use Rattle.cx_asm_pass1.specs.Laws.FirstFaults.{IsFirstOf}
use Rattle.cx_asm_pass1.specs.Facts.AllFaults.{first_with_fault}
use Rattle.cx_asm_pass1.specs.Facts.First.{one_more}
use Rattle.cx_asm_pass2.specs.SecondFaults.{bases_after_all, second_fault, second_faults_after}
use Rattle.cx_asm_pass2.specs.Statements.{PlacedStatement}
use Rattle.cx_asm_pass2.specs.Whole.{Whole}
use Rattle.cx_asm.specs.Laws.SecondFirst.{faults_by_statement}

pub second_is_first : (whole : Whole) (statements : List PlacedStatement) → IsFirstOf (faults_by_statement whole statements) (slice_get (second_faults_after whole statements) 0)
second_is_first whole [] = tt
second_is_first whole (s ∷ before) =
    let fault = second_fault whole (bases_after_all whole before) (length before) s in
    subst (IsFirstOf (faults_by_statement whole (s ∷ before))) (sym (first_with_fault s.line fault (second_faults_after whole before)))
    (one_more s.line fault (faults_by_statement whole before) (slice_get (second_faults_after whole before) 0) (second_is_first whole before))
