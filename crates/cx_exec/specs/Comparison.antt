-- Comparison (GA22-7000, "Compare", "Compare Logical"). A byte of an operand absent 5. The code: 0 equal, 1 first low,
-- 2 first high.
-- 19 CR [RR], 59 C, 49 CH [RX]  Compare: R1 and the second operand as signed numbers.
-- 15 CLR [RR], 55 CL [RX]  Compare Logical: as numbers without a sign. 95 CLI [SI]: the byte and the immediate byte.
-- D5 CLC [SS]  Compare Logical: two strings of n bytes, at a1 and a2, as numbers without a sign.
use Rattle.std.specs.Prelude.{ℕ, Option, pos}
use Rattle.cx_storage.specs.Storage.{byte_at, span}
use Rattle.cx_exec.specs.Numbers.{number_of}
use Rattle.cx_exec.specs.declared.machine.Updated.{Updated}
use Rattle.cx_exec.specs.Machine.{Machine, reg}
use Rattle.cx_exec.specs.Outcome.{Outcome, Completes}
use Rattle.cx_exec.specs.Numbers.{signed_word, order_code}
use Rattle.cx_exec.specs.Operands.{IfPresent}
use Rattle.cx_exec.specs.Results.{set_code}

abbrev pub compare : ℕ → ℕ → Updated → Machine → Machine
compare first second updated m = set_code (order_code (signed_word first) (signed_word second)) updated m

abbrev pub compared_logically : ℕ → ℕ → Updated → Machine → Machine
compared_logically first second updated m = set_code (order_code (pos first) (pos second)) updated m

abbrev pub Compares : ℕ → Option ℕ → Updated → Machine → Outcome → Machine → Type 0
Compares r second updated m outcome after =
    IfPresent second m outcome after (λ word. Completes outcome after (compare (reg m r) word updated m))

abbrev pub ComparesLogically : ℕ → Option ℕ → Updated → Machine → Outcome → Machine → Type 0
ComparesLogically r second updated m outcome after =
    IfPresent second m outcome after (λ word. Completes outcome after (compared_logically (reg m r) word updated m))

abbrev pub ComparesByte : ℕ → ℕ → Updated → Machine → Outcome → Machine → Type 0
ComparesByte i2 a updated m outcome after =
    IfPresent (byte_at m.storage a) m outcome after
    (λ byte. Completes outcome after (compared_logically byte i2 updated m))

unfoldable pub ComparesStrings : ℕ → ℕ → ℕ → Updated → Machine → Outcome → Machine → Type 0
ComparesStrings n a1 a2 updated m outcome after =
    IfPresent (span m.storage a1 n) m outcome after
    (λ first.
    IfPresent (span m.storage a2 n) m outcome after
    (λ second. Completes outcome after (compared_logically (number_of first) (number_of second) updated m)))
