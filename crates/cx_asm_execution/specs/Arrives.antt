-- The machine after it has performed the instructions made of an EXEC statement (this product's own).
use Rattle.std.specs.Prelude.{◌≡◌, ◌≢◌, ℕ, ◌*◌, ◌^◌, ◌<◌, ◌≤◌, Ok, length}
use Rattle.cx_storage.specs.Storage.{byte_at}
use Rattle.cx_storage.specs.Address.{address_in, address_after, distance}
use Rattle.cx_exec.specs.Machine.{Machine, reg}
use Rattle.cx_exec.specs.Step.{entry}
use Rattle.cx_exec.specs.Advance.{Passes}
use Rattle.cx_region_state.specs.Call.{call_of}
use Rattle.cx_asm_execution.specs.Expansion.{Statement, call_made, instructions_made, address_reached, words_of_list}
use Rattle.cx_asm_execution.specs.Stands.{code_length}

-- After as many steps as there are instructions the next address is the entry, and the list at the address in register
-- 1 is read as the statement's call, with the addresses that its arguments had at the first instruction. Every register
-- except 0, 1, 14 and 15 is as before, register 14 has the address after the instructions, and every byte outside the
-- list is as before.
pub record Arrives (m : Machine) (s : Statement) (after : Machine) : Type 0 where
  pub passes : Passes (length (instructions_made s)) m after
  pub next : after.next ≡ entry
  pub call : call_of after.storage (address_in (reg after 1)) ≡ Ok (call_made m.regs s)
  pub kept : (r : ℕ) → r ≢ 0 → r ≢ 1 → r ≢ 14 → r ≢ 15 → reg after r ≡ reg m r
  pub link : address_in (reg after 14) ≡ address_after m.next (code_length (instructions_made s))
  pub others : (x : ℕ) → x < 2 ^ 24 → 4 * length (words_of_list s) ≤ distance (address_reached m.regs s.list) x
      → byte_at after.storage x ≡ byte_at m.storage x
