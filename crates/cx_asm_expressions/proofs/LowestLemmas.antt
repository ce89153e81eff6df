-- The lowest of several faults.
use Rattle.std.proofs.Common.{◌≡◌, ◌≤◌, Bool, true, false, Option, Some, None, List, [], ◌∷◌, cond, refl, sym, subst, arith}
use Rattle.std.specs.Prelude.{nat_le}
use Rattle.std.specs.List.{AllByRecursion}
use Rattle.std.proofs.lemmas.Bool.Decides.{nat_tests}
use Rattle.std.proofs.lemmas.List.Elements.{Contains-append_right}
use Rattle.cx_asm_expressions.specs.Faults.{lower, lowest, fault_row}
use Rattle.cx_asm_expressions.specs.Laws.FaultLaws.{IsNotBelow, IsLowest}
use Rattle.cx_asm_expressions.specs.declared.faults.FaultKind.{FaultKind}

weaker : (a b : FaultKind) (o : Option FaultKind) → (fault_row a).0 ≤ (fault_row b).0 → IsNotBelow b o → IsNotBelow a o
weaker a b None le h = tt
weaker a b (Some other) le h = omega arith

all_weaker : (a b : FaultKind) (os : List (Option FaultKind)) → (fault_row a).0 ≤ (fault_row b).0 → AllByRecursion (IsNotBelow b) os → AllByRecursion (IsNotBelow a) os
all_weaker a b [] le h = tt
all_weaker a b (o ∷ os) le h = (weaker a b o le h.0, all_weaker a b os le h.1)

all_none : (a : FaultKind) (os : List (Option FaultKind)) → AllByRecursion (λ o. o ≡ None) os → AllByRecursion (IsNotBelow a) os
all_none a [] h = tt
all_none a (o ∷ os) h = (subst (IsNotBelow a) (sym h.0) tt, all_none a os h.1)

no_lower : (a b : FaultKind) → nat_le (fault_row a).0 (fault_row b).0 ≡ false → (fault_row b).0 ≤ (fault_row a).0
no_lower a b e = grind (arith, nat_tests)

in_order : (a b : FaultKind) → nat_le (fault_row a).0 (fault_row b).0 ≡ true → (fault_row a).0 ≤ (fault_row b).0
in_order a b e = grind (arith, nat_tests)

picked : (g b : FaultKind) (os : List (Option FaultKind)) (test : Bool) → (test ≡ true → (fault_row g).0 ≤ (fault_row b).0) → (test ≡ false → (fault_row b).0 ≤ (fault_row g).0)
    → IsLowest os (Some b) → IsLowest (Some g ∷ os) (Some (cond test g b))
picked g b os true under over h = ((omega arith, all_weaker g b os (under refl) h.0), (0, omega arith, refl))
picked g b os false under over h = ((over refl, h.0), Contains-append_right (Some g ∷ []) os (Some b) h.1)

one_more : (g : FaultKind) (os : List (Option FaultKind)) (rest : Option FaultKind) → IsLowest os rest → IsLowest (Some g ∷ os) (lower (Some g) rest)
one_more g os None h = ((omega arith, all_none g os h), (0, omega arith, refl))
one_more g os (Some b) h = picked g b os (nat_le (fault_row g).0 (fault_row b).0) (in_order g b) (no_lower g b) h

none_more : (os : List (Option FaultKind)) (rest : Option FaultKind) → IsLowest os rest → IsLowest (None ∷ os) rest
none_more os None h = (refl, h)
none_more os (Some b) h = ((tt, h.0), Contains-append_right (None ∷ []) os (Some b) h.1)

pub lowest_is_lowest : (faults : List (Option FaultKind)) → IsLowest faults (lowest faults)
lowest_is_lowest [] = tt
lowest_is_lowest (None ∷ faults) = none_more faults (lowest faults) (lowest_is_lowest faults)
lowest_is_lowest (Some g ∷ faults) = one_more g faults (lowest faults) (lowest_is_lowest faults)
