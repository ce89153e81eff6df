-- 1C MR [RR], 5C M [RX]  Multiply (GA22-7000): the pair of the even R1 gets the product of its second register and the
-- second operand. Odd R1 6; a byte of the operand absent 5; the code stays.
use Rattle.std.specs.Prelude.{ℕ, ◌+◌, Option, ◌*ℤ◌}
use Rattle.cx_exec.specs.declared.machine.Updated.{Updated}
use Rattle.cx_exec.specs.Machine.{Machine, reg}
use Rattle.cx_exec.specs.Outcome.{Outcome, Completes}
use Rattle.cx_exec.specs.Numbers.{signed_word, double_of}
use Rattle.cx_exec.specs.Operands.{IfEven, IfPresent}
use Rattle.cx_exec.specs.Results.{pair_coded}

abbrev pub multiply : ℕ → ℕ → Updated → Machine → Machine
multiply r word updated m = pair_coded r (double_of (signed_word (reg m (r + 1)) *ℤ signed_word word)) m.cc updated m

abbrev pub Multiplies : ℕ → Option ℕ → Updated → Machine → Outcome → Machine → Type 0
Multiplies r second updated m outcome after =
    IfEven r m outcome after
    (IfPresent second m outcome after (λ word. Completes outcome after (multiply r word updated m)))
