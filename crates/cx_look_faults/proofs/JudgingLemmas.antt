-- What is wrong with an operand by itself: a directive's, and an EXEC statement's.
use Rattle.std.proofs.Common.{◌≡◌, ℕ, Bool, true, Option, Some, None, List, [], Result, Ok, Err, slice_get, refl, subst, sym}
use Rattle.std.specs.Prelude.{filter}
use Rattle.std.specs.List.{cons_option}
use Rattle.std.specs.Result.{result_err}
use Rattle.cx_asm_expressions.specs.declared.faults.FaultKind.{FaultKind}
use Rattle.cx_asm_operands.specs.Checking.{with_made}
use Rattle.cx_translate.specs.Refusals.{refusal_of}
use Rattle.cx_translate.specs.Sections.{begins_exec}
use Rattle.cx_translate.specs.Translation.{fault_at, statement_faults}
use Rattle.cx_translate.specs.Words.{words_of}
use Rattle.cx_translate.specs.declared.faults.TransFault.{TransFault}
use Rattle.cx_look_faults.specs.Beside.{operand_without}
use Rattle.cx_look_faults.specs.Parts.Sources.{exec_source}
use Rattle.cx_look_faults.specs.Parts.Tests.{is_without}
use Rattle.cx_look_faults.specs.Spans.{cells_of, spans_of, zeros_from}
use Rattle.cx_look_faults.specs.declared.spans.Cell.{Cell}
use Rattle.cx_look_faults.specs.declared.spans.Cut.TheVariants.{Subfields}

-- what is made of a value has the fault that the value has
pub fault_stays : {A B : Type 0} (make : A → B) (value : Result A FaultKind) → result_err (with_made make value) ≡ result_err value
fault_stays make (Ok value) = refl
fault_stays make (Err fault) = refl

first_of_one : (fault : Option TransFault) → slice_get (cons_option fault []) 0 ≡ fault
first_of_one None = refl
first_of_one (Some fault) = refl

pub exec_fault : (operand : List ℕ) (faults : List TransFault) → faults ≡ statement_faults (exec_source operand).items → slice_get faults 0 ≡ refusal_of 1 (words_of operand)
unfolding fault_at begins_exec
exec_fault operand faults e =
    subst (λ (all : List TransFault). slice_get all 0 ≡ refusal_of 1 (words_of operand)) (sym e) (first_of_one (refusal_of 1 (words_of operand)))

-- an operand without the subfields that have a fault alone, by its characters
pub without_is : (has : List ℕ → Bool) (operand : List ℕ) (cells : List Cell) → cells ≡ cells_of Subfields operand
    → zeros_from (filter (is_without has cells) (spans_of Subfields operand)) true 0 cells ≡ operand_without has operand
unfolding is_without
without_is has operand cells e =
    subst (λ (by : List Cell). zeros_from (filter (is_without has by) (spans_of Subfields operand)) true 0 by ≡ operand_without has operand) (sym e) refl
