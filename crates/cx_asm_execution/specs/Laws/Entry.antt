-- The instructions made of an EXEC statement reach the entry, as the module `laws` promises it.
use Rattle.std.specs.Prelude.{◌≡◌, ℕ, ◌+◌, ◌*◌, ◌≤◌, length}
use Rattle.cx_exec.specs.declared.machine.Halt.TheVariants as halt
use Rattle.cx_exec.specs.Machine.{Machine}
use Rattle.cx_exec.specs.Advance.{Advances}
use Rattle.cx_asm_execution.specs.Expansion.{Statement, instructions_made, words_of_list}
use Rattle.cx_asm_execution.specs.Stands.{IsMachine, IsLegal, StandsInStorage, IsListAddressed, IsClear, code_length}
use Rattle.cx_asm_execution.specs.Arrives.{Arrives}

-- the instructions at the next address lead to a machine that has arrived
abbrev pub ReachesEntry : Type 0
ReachesEntry =
    (m : Machine) (s : Statement) → IsMachine m → IsLegal s → StandsInStorage m s → IsListAddressed m s → IsClear m s
    → (after : Machine) × Arrives m s after

-- a run with any limit that they fit in ends there, at the entry
abbrev pub ArrivesInTime : Type 0
ArrivesInTime = (m : Machine) (s : Statement) (after : Machine) (limit : ℕ) → Arrives m s after
    → length (instructions_made s) ≤ limit → Advances limit m halt.AtEntry after

-- there is one machine at most that has arrived
abbrev pub ArrivalsDecide : Type 0
ArrivalsDecide = (m : Machine) (s : Statement) (a b : Machine) → Arrives m s a → Arrives m s b → a ≡ b

-- Two instructions are made for each word of the list, and four; those except BALR have four bytes.
abbrev pub MadeAreCounted : Type 0
MadeAreCounted = (s : Statement) → (length (instructions_made s) ≡ 2 * length (words_of_list s) + 4)
    × (code_length (instructions_made s) ≡ 8 * length (words_of_list s) + 14)
