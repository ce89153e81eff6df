-- 1D DR [RR], 5D D [RX]  Divide (GA22-7000): the pair of the even R1 by the second operand. Odd R1 6; a byte of the
-- operand absent 5; no quotient that a word holds 9; the code stays.
use Rattle.std.specs.Prelude.{◌≡◌, ℕ, Option, ◌+◌, ◌<◌, ◌⊎◌, ℤ, pos, ◌+ℤ◌, ◌*ℤ◌, int_lt, unsigned_abs, slice_set, Ok, Err, FitsSigned}
use Rattle.std.specs.Int.{w32}
use Rattle.cx_exec.specs.declared.machine.Interruption.TheVariants as interruption
use Rattle.cx_exec.specs.declared.machine.Updated.{Updated}
use Rattle.cx_exec.specs.Machine.{Machine}
use Rattle.cx_exec.specs.Numbers.{signed_word, signed_double, word_of}
use Rattle.cx_exec.specs.Results.{pair}
use Rattle.cx_exec.specs.Outcome.{Outcome}
use Rattle.cx_exec.specs.Operands.{IfEven, IfPresent}

-- the remainder is smaller than the divisor in size, and zero or of the dividend's sign
pub record Divides (dividend divisor quotient remainder : ℤ) : Type 0 where
  pub equation : dividend ≡ (divisor *ℤ quotient) +ℤ remainder
  pub smaller : unsigned_abs remainder < unsigned_abs divisor
  pub sign : (remainder ≡ pos 0) ⊎ (int_lt remainder (pos 0) ≡ int_lt dividend (pos 0))

-- quotient and remainder, where the quotient is one that a word holds
pub record IsDivision (dividend divisor quotient remainder : ℤ) : Type 0 where
  pub divides : Divides dividend divisor quotient remainder
  pub fits : FitsSigned w32 quotient

-- The remainder goes into the pair's first register and the quotient into its second; where there is no such
-- quotient, fixed-point divide is the interruption.
unfoldable pub DividesRegisters : ℕ → ℕ → Updated → Machine → Outcome → Machine → Type 0
DividesRegisters r divisor updated m (Ok u) after =
    (quotient remainder : ℤ) × IsDivision (signed_double (pair m.regs r)) (signed_word divisor) quotient remainder
    × (after ≡ record m {
      regs = slice_set (slice_set m.regs r (word_of remainder)) (r + 1) (word_of quotient);
      next = updated.address;
    })
DividesRegisters r divisor updated m (Err cause) after =
    ((quotient remainder : ℤ) → IsDivision (signed_double (pair m.regs r)) (signed_word divisor) quotient remainder → ⊥)
    × (cause ≡ interruption.FixedPointDivide) × (after ≡ m)

abbrev pub DividesPair : ℕ → Option ℕ → Updated → Machine → Outcome → Machine → Type 0
DividesPair r second updated m outcome after =
    IfEven r m outcome after
    (IfPresent second m outcome after (λ word. DividesRegisters r word updated m outcome after))
