-- Branches (GA22-7000, "Branch and Link", "Branch on Condition", "Branch on Count"). Nothing interrupts them; the code
-- stays.
-- 05 BALR [RR], 45 BAL [RX]: R1 gets the link word. 07 BCR [RR], 47 BC [RX]: where the mask has the code's bit.
-- 06 BCTR [RR], 46 BCT [RX]: R1 less one, modulo 2^32, where it isn't zero then.
use Rattle.std.specs.Prelude.{ℕ, ◌+◌, ◌-◌, ◌*◌, ◌%◌, ◌^◌, List, Bool, ◌==◌, not, bit_and, slice_set, slice_index, if◌then◌else◌}
use Rattle.cx_exec.specs.declared.machine.Updated.{Updated}
use Rattle.cx_exec.specs.Machine.{Machine, reg}
use Rattle.cx_storage.specs.Address.{address_in}

-- a mask's bit of each condition code: 8, 4, 2, 1 for codes 0 to 3 (GA22-7000, "Branch on Condition")
abbrev pub mask_bit : ℕ → ℕ
mask_bit cc = if cc == 0 then 8 else (if cc == 1 then 4 else (if cc == 2 then 2 else 1))

unfoldable pub selects : ℕ → ℕ → Bool
selects mask cc = not (bit_and mask (mask_bit cc) == 0)

-- the link word: length in halfwords (2 bits), condition code (2), program mask (4, always zero), address (24)
-- (GA22-7000, "Branch and Link")
unfoldable pub link_word : Updated → ℕ → ℕ
link_word updated cc = updated.length_code * 2 ^ 30 + cc * 2 ^ 28 + updated.address

-- a register gets the link word, and the machine goes on elsewhere
abbrev pub branch_with_link : ℕ → ℕ → Updated → Machine → Machine
branch_with_link r to updated m = record m { regs = slice_set m.regs r (link_word updated m.cc); next = to }

-- where a branch to a register's address goes: register 0 is no branch
abbrev pub branch_address : List ℕ → ℕ → Updated → ℕ
branch_address regs r updated = if r == 0 then updated.address else address_in (slice_index regs r)

-- the machine goes on elsewhere where the mask selects its condition code
abbrev pub branch_on_condition : ℕ → ℕ → Updated → Machine → Machine
branch_on_condition mask to updated m = record m { next = if selects mask m.cc then to else updated.address }

-- a word less one, modulo 2^32
abbrev pub less_one : ℕ → ℕ
less_one word = (word + (2 ^ 32 - 1)) % 2 ^ 32

-- a register is counted down by one, with a branch where it isn't zero then
abbrev pub branch_on_count : ℕ → ℕ → Updated → Machine → Machine
branch_on_count r to updated m = record m {
  regs = slice_set m.regs r (less_one (reg m r));
  next = if less_one (reg m r) == 0 then updated.address else to;
}
