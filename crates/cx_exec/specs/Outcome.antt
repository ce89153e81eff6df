-- How an instruction ends (GA22-7000, "Types of Instruction Ending"): it is completed, or suppressed by an
-- interruption.
use Rattle.std.specs.Prelude.{◌≡◌, Result, Ok, Err}
use Rattle.cx_exec.specs.declared.machine.Interruption.{Interruption}
use Rattle.cx_exec.specs.Machine.{Machine}

abbrev pub Outcome : Type 0
Outcome = Result (Unit {0}) Interruption

-- the instruction is completed, and the machine is as written
abbrev pub Completes : Outcome → Machine → Machine → Type 0
Completes outcome after written = (outcome ≡ Ok tt) × (after ≡ written)

-- the instruction is suppressed, and nothing has changed
abbrev pub IsSuppressed : Interruption → Machine → Outcome → Machine → Type 0
IsSuppressed cause m outcome after = (outcome ≡ Err cause) × (after ≡ m)
