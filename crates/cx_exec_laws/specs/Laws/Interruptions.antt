-- What an interruption leaves.
use Rattle.std.specs.Prelude.{◌≡◌, ◌⊎◌, ℕ, Ok, slice_set}
use Rattle.cx_code.specs.declared.table.Op.TheVariants as op
use Rattle.cx_code.specs.declared.instruction.Fields.TheVariants.{Rx}
use Rattle.cx_code.specs.Spelling.{instruction}
use Rattle.cx_exec.specs.declared.machine.Interruption.{Interruption}
use Rattle.cx_exec.specs.declared.machine.Interruption.TheVariants as interruption
use Rattle.cx_exec.specs.declared.machine.Step.TheVariants.{Interrupt}
use Rattle.cx_exec.specs.declared.stepping.PendingInstruction.{PendingInstruction}
use Rattle.cx_exec.specs.Machine.{Machine}
use Rattle.cx_exec.specs.Step.{instruction_to_perform, Steps}

-- a CVB, interrupted by 9, has changed its register R1, and nothing else
pub record IsConversion (m : Machine) (cause : Interruption) (after : Machine) : Type 0 where
  pub r1 : ℕ
  pub x2 : ℕ
  pub b2 : ℕ
  pub d2 : ℕ
  pub due : PendingInstruction
  pub performs : instruction_to_perform m ≡ Ok due
  pub converts : due.inst ≡ instruction op.Cvb (Rx r1 x2 b2 d2)
  pub divide : cause ≡ interruption.FixedPointDivide
  pub word : ℕ
  pub changes : after ≡ record m { regs = slice_set m.regs r1 word }

-- an interruption leaves registers, code, next address and storage as before, except the register of CVB's 9
abbrev pub InterruptionsLeave : Type 0
InterruptionsLeave =
    (m : Machine) (cause : Interruption) (after : Machine) → Steps m (Interrupt cause) after
    → (after ≡ m) ⊎ IsConversion m cause after

-- the code, the next address and storage are always those before
abbrev pub InterruptionsKeep : Type 0
InterruptionsKeep = (m : Machine) (cause : Interruption) (after : Machine) → Steps m (Interrupt cause) after
    → (after.cc ≡ m.cc) × (after.next ≡ m.next) × (after.storage ≡ m.storage)
