-- What the definition of division comes to, as the module `laws` promises it.
use Rattle.std.specs.Prelude.{◌≡◌, ℤ}
use Rattle.cx_exec.specs.Division.{IsDivision}

-- a dividend and a divisor have one quotient and one remainder
abbrev pub DivisionIsOne : Type 0
DivisionIsOne =
    (dividend divisor q r p s : ℤ) → IsDivision dividend divisor q r → IsDivision dividend divisor p s
    → (q ≡ p) × (r ≡ s)
