use Rattle.std.proofs.Common.{◌≡◌, ℕ, ◌<◌, ◌^◌}
use Rattle.cx_exec.specs.Decimal.{half, first_digits}
use Rattle.cx_exec.proofs.decimal.digits.Given as goal

-- the digits so far are valid, and this is their number
abbrev pub invariant-loop-i : goal.invariant-loop-i
invariant-loop-i l = ((j : ℕ) → j < l.i → half l.bytes j < 10) × (l.number ≡ first_digits l.bytes l.i) × (l.number < 10 ^ l.i)
