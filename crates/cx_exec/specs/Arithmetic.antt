-- Addition and subtraction (GA22-7000, "Add", "Subtract", "Load Complement"). A byte of the operand absent 5.
-- 1A AR [RR], 5A A, 4A AH [RX]  Add; 1B SR [RR], 5B S, 4B SH [RX]  Subtract: R1 and the second operand.
-- 13 LCR [RR]  Load Complement: the second operand with its sign changed.
-- The code: 0 zero, 1 less than zero, 2 greater, 3 overflow; then R1 holds the result modulo 2^32.
use Rattle.std.specs.Prelude.{ℕ, Option, ℤ, neg_ℤ, ◌+ℤ◌, ◌-ℤ◌}
use Rattle.cx_exec.specs.declared.machine.Updated.{Updated}
use Rattle.cx_exec.specs.Machine.{Machine, reg}
use Rattle.cx_exec.specs.Outcome.{Outcome, Completes}
use Rattle.cx_exec.specs.Numbers.{signed_word, word_of, sum_code}
use Rattle.cx_exec.specs.Operands.{IfPresent}
use Rattle.cx_exec.specs.Results.{loaded_coded}

-- a register holds an exact result modulo 2^32, and the code gives its sign, or 3 where no word holds it
abbrev pub load_sum : ℕ → ℤ → Updated → Machine → Machine
load_sum r x updated m = loaded_coded r (word_of x) (sum_code x) updated m

abbrev pub Adds : ℕ → Option ℕ → Updated → Machine → Outcome → Machine → Type 0
Adds r second updated m outcome after =
    IfPresent second m outcome after
    (λ word. Completes outcome after (load_sum r (signed_word (reg m r) +ℤ signed_word word) updated m))

abbrev pub Subtracts : ℕ → Option ℕ → Updated → Machine → Outcome → Machine → Type 0
Subtracts r second updated m outcome after =
    IfPresent second m outcome after
    (λ word. Completes outcome after (load_sum r (signed_word (reg m r) -ℤ signed_word word) updated m))

abbrev pub load_complement : ℕ → ℕ → Updated → Machine → Machine
load_complement r word updated m = load_sum r (neg_ℤ (signed_word word)) updated m
