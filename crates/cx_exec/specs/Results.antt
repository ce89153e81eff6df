-- What completed instructions leave that go on at the updated address (GA22-7000, "General Instructions"): each
-- definition says all that changes.
use Rattle.std.specs.Prelude.{ℕ, ◌+◌, ◌*◌, ◌/◌, ◌%◌, ◌^◌, List, slice_index, slice_set}
use Rattle.cx_exec.specs.declared.machine.Updated.{Updated}
use Rattle.cx_exec.specs.Machine.{Machine}

-- a register is changed, and the condition code stays
abbrev pub load_register : ℕ → ℕ → Updated → Machine → Machine
load_register r word updated m = record m { regs = slice_set m.regs r word; next = updated.address }

-- a condition code is set, and no register is changed
abbrev pub set_code : ℕ → Updated → Machine → Machine
set_code cc updated m = record m { cc = cc; next = updated.address }

-- a register is changed, and a condition code is set
abbrev pub loaded_coded : ℕ → ℕ → ℕ → Updated → Machine → Machine
loaded_coded r word cc updated m = record m { regs = slice_set m.regs r word; cc = cc; next = updated.address }

-- the doubleword in a register and the one after it, and registers that hold a doubleword there
abbrev pub pair : List ℕ → ℕ → ℕ
pair regs r = slice_index regs r * 2 ^ 32 + slice_index regs (r + 1)

abbrev pub with_pair : List ℕ → ℕ → ℕ → List ℕ
with_pair regs r double = slice_set (slice_set regs r (double / 2 ^ 32)) (r + 1) (double % 2 ^ 32)

-- a pair of registers is changed, and a condition code is set
abbrev pub pair_coded : ℕ → ℕ → ℕ → Updated → Machine → Machine
pair_coded r double cc updated m = record m { regs = with_pair m.regs r double; cc = cc; next = updated.address }
