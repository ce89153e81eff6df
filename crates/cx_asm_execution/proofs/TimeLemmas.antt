-- A run of as many steps as there are instructions ends where the machine has arrived.
use Rattle.std.proofs.Common.{ℕ, ◌≤◌, arith, length}
use Rattle.cx_exec.specs.declared.machine.Halt.TheVariants as halt
use Rattle.cx_exec.specs.Machine.{Machine}
use Rattle.cx_exec.specs.Advance.{Advances}
use Rattle.cx_asm_execution.specs.Expansion.{Statement, instructions_made}
use Rattle.cx_asm_execution.specs.Arrives.{Arrives}

pub in_time : (m : Machine) (s : Statement) (after : Machine) (limit : ℕ) → Arrives m s after → length (instructions_made s) ≤ limit → Advances limit m halt.AtEntry after
unfolding Advances
in_time m s after limit arrives fits = (length (instructions_made s), fits, arrives.passes, arrives.next)

-- with the limit that just suffices
pub in_due_time : (m : Machine) (s : Statement) (after : Machine) → Arrives m s after → Advances (length (instructions_made s)) m halt.AtEntry after
in_due_time m s after arrives = in_time m s after (length (instructions_made s)) arrives (omega arith)
