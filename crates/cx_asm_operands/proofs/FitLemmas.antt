-- What is read fits its field.
use Rattle.std.proofs.Common.{◌≡◌, ℕ, ℤ, ◌≤◌, Option, Some, None, List, [], ◌∷◌, Ok, Err, arith}
use Rattle.std.specs.Prelude.{Result, if◌then◌else◌, is_some}
use Rattle.std.specs.Option.{ok_or}
use Rattle.cx_asm_expressions.specs.declared.faults.FaultKind.TheVariants.{BadOperand, ValueOutOfRange}
use Rattle.std.proofs.lemmas.Bool.Decides.{nat_tests}
use Rattle.cx_asm_expressions.specs.declared.values.Value.{Value}
use Rattle.cx_asm_expressions.specs.declared.faults.FaultKind.{FaultKind}
use Rattle.cx_asm_operands.specs.Checking.{both_or_lower_fault, then_check}
use Rattle.cx_asm_operands.specs.Storage.{address_by_subfields, counted_by, implied_length}
use Rattle.cx_asm_operands.specs.declared.addresses.Address.{Address}
use Rattle.cx_asm_operands.specs.Addresses.{number_within}
use Rattle.cx_asm_operands.specs.Context.{Context, expression_value, number_at_most, operand_number}

number_to_fits : (most : ℕ) (section : Option (List ℕ)) (number : ℤ) (n : ℕ)
    → (if is_some section then Err BadOperand else ok_or (number_within most number) ValueOutOfRange) ≡ Ok n → n ≤ most
number_to_fits most None number n e = grind (arith, nat_tests)
number_to_fits most (Some section) number n e = cc

pub at_most_fits : (most : ℕ) (value : Value) (n : ℕ) → number_at_most most value ≡ Ok n → n ≤ most
at_most_fits most value n e = number_to_fits most value.section value.number n e

judged_fits : (most : ℕ) (value : Result Value FaultKind) (n : ℕ) → then_check (number_at_most most) value ≡ Ok n → n ≤ most
judged_fits most (Ok value) n e = at_most_fits most value n e
judged_fits most (Err fault) n e = cc

pub number_fits : (most : ℕ) (c : Context) (text : List ℕ) (n : ℕ) → operand_number most c text ≡ Ok n → n ≤ most
unfolding operand_number
number_fits most c text n e = judged_fits most (expression_value c text) n e

length_fits : (most : ℕ) (place : Result Value FaultKind) (n : ℕ) → then_check (implied_length most) place ≡ Ok n → n ≤ most
length_fits most (Ok value) n e = grind (arith, nat_tests)
length_fits most (Err fault) n e = cc

-- the first of two that are judged
pub both_first : {A B : Type 0} (one : Result A FaultKind) (other : Result B FaultKind) (v : A × B) → both_or_lower_fault one other ≡ Ok v → one ≡ Ok v.0
both_first (Ok a) (Ok b) v e = grind arith
both_first (Ok a) (Err f) v e = cc
both_first (Err f) (Ok b) v e = cc
both_first (Err f) (Err g) v e = cc

pub both_second : {A B : Type 0} (one : Result A FaultKind) (other : Result B FaultKind) (v : A × B) → both_or_lower_fault one other ≡ Ok v → other ≡ Ok v.1
both_second (Ok a) (Ok b) v e = grind arith
both_second (Ok a) (Err f) v e = cc
both_second (Err f) (Ok b) v e = cc
both_second (Err f) (Err g) v e = cc

pub counted_fits : (most : ℕ) (c : Context) (place : Result Value FaultKind) (texts : List (List ℕ)) (v : ℕ × Address) → counted_by most c place texts ≡ Ok v → v.0 ≤ most
counted_fits most c place [] v e = length_fits most place v.0 (both_first (then_check (implied_length most) place) (address_by_subfields c place []) v e)
counted_fits most c place (t ∷ ts) v e = number_fits most c t v.0 (both_first (operand_number most c t) (address_by_subfields c place ts) v e)
