-- Every instruction has a row.
use Rattle.std.specs.Prelude.{◌≡◌, false, Err}
use Rattle.cx_code.specs.Spelling.{Instruction, IsWellFormed}
use Rattle.cx_exec.specs.declared.machine.Interruption.TheVariants as interruption
use Rattle.cx_exec.specs.declared.machine.Updated.{Updated}
use Rattle.cx_exec.specs.Machine.{Machine}
use Rattle.cx_exec.specs.Rows.{Effect}
use Rattle.cx_exec.specs.Step.{is_execute}

-- the effect of a well-formed instruction except EX is never interruption 1, operation
abbrev pub EveryRowIsThere : Type 0
EveryRowIsThere = (i : Instruction) (updated : Updated) (m after : Machine) → IsWellFormed i → is_execute i.op ≡ false
    → Effect i updated m (Err interruption.Operation) after → ⊥
