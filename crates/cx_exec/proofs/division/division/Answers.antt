use Rattle.std.proofs.Common.{◌≡◌, ◌∙◌, sym, ap, subst, arith, ℤ, int_div, FitsSigned}
use Rattle.std.specs.Int.{w32, w64, cast_signed, cast_unsigned}
use Rattle.std.proofs.lemmas.Int.{ints, to_z-of_z}
use Rattle.cx_exec.proofs.DivideLemmas.{quotient_fits}
use Rattle.cx_exec.proofs.division.division.Goals as goal
use Rattle.cx_exec.proofs.division.division.Goals.{
  then-quotient-ltminus2147483648-via-then-quotient-ltminus2147483648,
  then-quotient-ltminus2147483648-via-else-quotient-ltminus2147483648+then-quotient-ge2147483648,
}

pub returns-then-quotient-ltminus2147483648-clause-none :
    goal.returns-then-quotient-ltminus2147483648-clause-none
returns-then-quotient-ltminus2147483648-clause-none c q r h =
    let n : ℤ = c.args.dividend in
    let d : ℤ = c.args.divisor in
    let same : c.in_ok-quotient.quotient ≡ int_div n d =
    c.in_ok-quotient.ensures.1 ∙ ap (λ (x : ℤ). int_div x (cast_signed w64 (cast_unsigned w64 d))) (to_z-of_z w64 n c.ranges.dividend) ∙ ap (λ (x : ℤ). int_div n x) (to_z-of_z w64 d c.ranges.divisor) in
    let fits : FitsSigned w32 c.in_ok-quotient.quotient = subst (λ (x : ℤ). FitsSigned w32 x) (sym same) (quotient_fits n d q r h) in
    elim c.then-quotient-ltminus2147483648.branch [
      | then-quotient-ltminus2147483648-via-then-quotient-ltminus2147483648 w ↦ omega (arith, ints)
      | then-quotient-ltminus2147483648-via-else-quotient-ltminus2147483648+then-quotient-ge2147483648 w ↦ omega (arith, ints)
    ]
