-- Several operands judged together: the lowest of all their faults is reported (own).
use Rattle.std.specs.Prelude.{Result, Ok, Err}
use Rattle.cx_asm_expressions.specs.Faults.{lower_of}
use Rattle.cx_asm_expressions.specs.declared.faults.FaultKind.{FaultKind}

-- both values, or the lower of the faults
abbrev pub both_or_lower_fault : {A B : Type 0} → Result A FaultKind → Result B FaultKind → Result (A × B) FaultKind
both_or_lower_fault (Ok one) (Ok other) = Ok (one, other)
both_or_lower_fault (Ok one) (Err fault) = Err fault
both_or_lower_fault (Err fault) (Ok other) = Err fault
both_or_lower_fault (Err one) (Err other) = Err (lower_of one other)

-- what is made of a value, where there is one
abbrev pub with_made : {A B : Type 0} → (A → B) → Result A FaultKind → Result B FaultKind
with_made make (Ok value) = Ok (make value)
with_made make (Err fault) = Err fault

-- what is judged of a value, where there is one
abbrev pub then_check : {A B : Type 0} → (A → Result B FaultKind) → Result A FaultKind → Result B FaultKind
then_check check (Ok value) = check value
then_check check (Err fault) = Err fault
