-- The value of an expression, or what is wrong with it (GC33-4010, "Expressions").
use Rattle.std.specs.Prelude.{◌≡◌, ℕ, ℤ, pos, nat_le, unsigned_abs, if◌then◌else◌, Option, Some, None, Result, Ok, Err, List, [], ◌∷◌, map, slice_get, option_map, option_and_then}
use Rattle.std.specs.List.{filter_map}
use Rattle.std.specs.Option.{option_map_or}
use Rattle.std.specs.Result.{result_ok, result_err}
use Rattle.cx_asm_expressions.specs.Faults.{lowest}
use Rattle.cx_asm_expressions.specs.Digits.{bound}
use Rattle.cx_asm_expressions.specs.Terms.{Term, terms_of}
use Rattle.cx_asm_expressions.specs.TermValues.{term_value}
use Rattle.cx_asm_expressions.specs.Weights.{relocation, with_sign}
use Rattle.cx_asm_expressions.specs.declared.values.Value.{Value}
use Rattle.cx_asm_expressions.specs.declared.expressions.Signed.{Signed}
use Rattle.cx_asm_expressions.specs.declared.faults.FaultKind.{FaultKind}
use Rattle.cx_asm_expressions.specs.declared.faults.FaultKind.TheVariants.{BadOperand, ValueOutOfRange, NotRelocatable}
use Rattle.cx_asm_expressions.specs.declared.faults.TermFault.{TermFault}
use Rattle.cx_asm_expressions.specs.declared.faults.TermFault.TheVariants.{Refused, Memory}

-- the lowest fault of the terms
abbrev pub lowest_fault : (List ℕ → Option Value) → Option Value → List Term → Option FaultKind
lowest_fault find here terms = lowest (map (λ term. result_err (term_value find here term)) terms)

-- the value of a term, with its sign
abbrev pub signed_value : (List ℕ → Option Value) → Option Value → Term → Option Signed
signed_value find here term =
    option_map (λ (value : Value). record { sign = term.sign; value = value }) (result_ok (term_value find here term))

-- None beyond the bound
abbrev pub within_bound : ℤ → Option ℤ
within_bound total = if nat_le (unsigned_abs total) bound then Some total else None

-- the sum, made from the left; None where it leaves the bound on the way
abbrev pub sum_from : ℤ → List Signed → Option ℤ
sum_from total [] = Some total
sum_from total (value ∷ values) =
    option_and_then (λ sum. sum_from sum values) (within_bound (with_sign value.sign total value.value.number))

abbrev pub value_or_fault : Option ℤ → Option (Option (List ℕ)) → ℕ → Result Value FaultKind
value_or_fault None section length = Err ValueOutOfRange
value_or_fault (Some number) None length = Err NotRelocatable
value_or_fault (Some number) (Some section) length = Ok (record { section = section; number = number; length = length })

-- a sum of values: its number, the section it is a place in, the length attribute of its leftmost term
unfoldable pub sum_of_values : List Signed → Result Value FaultKind
sum_of_values values =
    value_or_fault (sum_from (pos 0) values) (relocation values)
    (option_map_or (λ (v : Signed). v.value.length) (slice_get values 0) 1)

abbrev pub sum_of_terms : (List ℕ → Option Value) → Option Value → Option (List Term) → Result Value FaultKind
sum_of_terms find here None = Err BadOperand
sum_of_terms find here (Some terms) =
    option_map_or Err (lowest_fault find here terms) (sum_of_values (filter_map (signed_value find here) terms))

-- The value of an expression, where `find` knows the symbols and `here` is where the location counter is. A text that
-- is no expression is BadOperand alone; else the lowest of its terms' faults; then a sum out of bounds; then one that
-- is neither absolute nor a place.
unfoldable pub value_of : (List ℕ → Option Value) → Option Value → List ℕ → Result Value FaultKind
value_of find here text = sum_of_terms find here (terms_of text)

-- The answer is the one due, unless memory runs out.
abbrev pub Answers : {T : Type 0} → Result T FaultKind → Result T TermFault → Type 0
Answers due (Ok value) = due ≡ Ok value
Answers due (Err (Refused fault)) = due ≡ Err fault
Answers due (Err Memory) = Unit {0}
