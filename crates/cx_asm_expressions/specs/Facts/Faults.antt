-- The lowest of several faults, found one after the other.
use Rattle.std.proofs.Common.{◌≡◌, Option, Some, None, refl, arith}
use Rattle.std.proofs.lemmas.Bool.Decides.{nat_tests}
use Rattle.cx_asm_expressions.specs.Faults.{lower}
use Rattle.cx_asm_expressions.specs.declared.faults.FaultKind.{FaultKind}

pub lower_in_turn : (a b c : Option FaultKind) → lower (lower a b) c ≡ lower a (lower b c)
lower_in_turn None b c = refl
lower_in_turn (Some a) None c = refl
lower_in_turn (Some a) (Some b) None = refl
lower_in_turn (Some a) (Some b) (Some c) = grind (arith, nat_tests)

pub lower_nothing : (a : Option FaultKind) → lower a None ≡ a
lower_nothing None = refl
lower_nothing (Some a) = refl
