-- The machine (System/370 Principles of Operation, GA22-7000, "Program Status Word", "General Registers").
use Rattle.cx_storage.specs.Address.{address_in}
use Rattle.std.specs.Prelude.{ℕ, ◌+◌, List, ◌==◌, slice_index, if◌then◌else◌}
use Rattle.cx_storage.specs.Storage.{Storage}
use Rattle.cx_code.specs.declared.cpu.Cpu.{Cpu}
use Rattle.cx_exec.specs.declared.machine.Interruption.{Interruption}
use Rattle.cx_exec.specs.declared.machine.Interruption.TheVariants as interruption

-- sixteen registers of 32 bits, the condition code, the address of the next instruction, and storage
pub record Machine : Type 0 where
  pub regs : List ℕ
  pub cc : ℕ
  pub next : ℕ
  pub storage : Storage

-- the machine that a processor and a storage make
abbrev pub machine : Cpu → Storage → Machine
machine cpu storage = record { regs = cpu.regs; cc = cpu.cc; next = cpu.next; storage = storage }

-- the content of a register
abbrev pub reg : Machine → ℕ → ℕ
reg m r = slice_index m.regs r

-- what a register gives to an address: register 0 gives zero
abbrev pub address_part : List ℕ → ℕ → ℕ
address_part regs r = if r == 0 then 0 else slice_index regs r

-- the effective address: base, index and displacement
unfoldable pub effective : List ℕ → ℕ → ℕ → ℕ → ℕ
effective regs index base displacement = address_in (address_part regs base + address_part regs index + displacement)

-- the codes of the interruptions (GA22-7000, "Program-Interruption Conditions")
abbrev pub interruption_code : Interruption → ℕ
interruption_code interruption.Operation = 1
interruption_code interruption.Execute = 3
interruption_code interruption.Addressing = 5
interruption_code interruption.Specification = 6
interruption_code interruption.Data = 7
interruption_code interruption.FixedPointDivide = 9
