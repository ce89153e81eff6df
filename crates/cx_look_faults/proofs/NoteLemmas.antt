-- Digits of numbers.
use Rattle.std.proofs.Common.{◌≡◌, ℕ, Bool, List, [], ◌∷◌, ap₂, refl, arith}
use Rattle.std.specs.Prelude.{◌&&◌, nat_le}
use Rattle.std.specs.List.{list_all}
use Rattle.std.proofs.lemmas.Bool.Decides.{nat_tests}
use Rattle.cx_asm_expressions.specs.Digits.{digit, is_digit}

pub one_digit : (c : ℕ) → is_digit 10 c ≡ (nat_le 48 c && nat_le c 57)
unfolding digit
one_digit c = grind (arith, nat_tests)

pub all_digits : (text : List ℕ) → list_all (is_digit 10) text ≡ list_all (λ c. nat_le 48 c && nat_le c 57) text
all_digits [] = refl
all_digits (c ∷ cs) = ap₂ (λ (a b : Bool). a && b) (one_digit c) (all_digits cs)
