-- The value of an expression stays within the bound of all numbers.
use Rattle.std.proofs.Common.{◌≡◌, ℕ, ℤ, pos, ◌≤◌, ◌^◌, Option, Some, None, List, [], ◌∷◌, Ok, Err, refl, arith}
use Rattle.std.specs.Prelude.{Result, unsigned_abs, option_and_then, option_map}
use Rattle.std.specs.List.{filter_map}
use Rattle.std.specs.Option.{ok_or, option_map_or}
use Rattle.cx_asm_expressions.specs.declared.faults.FaultKind.TheVariants.{NotRelocatable}
use Rattle.std.proofs.lemmas.Bool.Decides.{nat_tests}
use Rattle.cx_asm_expressions.specs.Digits.{bound}
use Rattle.cx_asm_expressions.specs.Terms.{Term, terms_of}
use Rattle.cx_asm_expressions.specs.Weights.{relocation, with_sign}
use Rattle.cx_asm_expressions.specs.Expressions.{within_bound, sum_from, signed_value, value_or_fault, sum_of_values, lowest_fault, sum_of_terms, value_of}
use Rattle.cx_asm_expressions.specs.declared.values.Value.{Value}
use Rattle.cx_asm_expressions.specs.declared.expressions.Signed.{Signed}
use Rattle.cx_asm_expressions.specs.declared.faults.FaultKind.{FaultKind}
use Rattle.cx_asm_operands.specs.Checking.{then_check}
use Rattle.cx_asm_operands.specs.Directives.{place_in}

within_small : (t n : ℤ) → within_bound t ≡ Some n → unsigned_abs n ≤ bound
within_small t n e = grind (arith, nat_tests)

sum_step : (w : Option ℤ) (vs : List Signed) (n : ℤ) → ((t : ℤ) → w ≡ Some t → unsigned_abs t ≤ bound)
    → ((t m : ℤ) → unsigned_abs t ≤ bound → sum_from t vs ≡ Some m → unsigned_abs m ≤ bound)
    → option_and_then (λ sum. sum_from sum vs) w ≡ Some n → unsigned_abs n ≤ bound
sum_step None vs n small after e = cc
sum_step (Some t) vs n small after e = after t n (small t refl) e

sum_small : (vs : List Signed) (t n : ℤ) → unsigned_abs t ≤ bound → sum_from t vs ≡ Some n → unsigned_abs n ≤ bound
sum_small [] t n small e = grind arith
sum_small (v ∷ vs) t n small e =
    sum_step (within_bound (with_sign v.sign t v.value.number)) vs n (λ s i. within_small (with_sign v.sign t v.value.number) s i) (sum_small vs) e

located_number : (sum : Option ℤ) (section : Option (Option (List ℕ))) (length : ℕ) (v : Value) → value_or_fault sum section length ≡ Ok v → sum ≡ Some v.number
located_number None section length v e = cc
located_number (Some n) None length v e = cc
located_number (Some n) (Some s) length v e = grind arith

summed_small : (vs : List Signed) (v : Value) → sum_of_values vs ≡ Ok v → unsigned_abs v.number ≤ bound
unfolding sum_of_values
summed_small vs v e =
    sum_small vs (pos 0) v.number (grind arith) (located_number (sum_from (pos 0) vs) (relocation vs) _ v e)

unless_small : (fault : Option FaultKind) (vs : List Signed) (v : Value) → option_map_or Err fault (sum_of_values vs) ≡ Ok v → unsigned_abs v.number ≤ bound
unless_small None vs v e = summed_small vs v e
unless_small (Some fault) vs v e = cc

valued_small : (find : List ℕ → Option Value) (here : Option Value) (terms : Option (List Term)) (v : Value) → sum_of_terms find here terms ≡ Ok v → unsigned_abs v.number ≤ bound
valued_small find here None v e = cc
valued_small find here (Some terms) v e =
    unless_small (lowest_fault find here terms) (filter_map (signed_value find here) terms) v e

pub value_small : (find : List ℕ → Option Value) (here : Option Value) (text : List ℕ) (v : Value) → value_of find here text ≡ Ok v → unsigned_abs v.number ≤ bound
unfolding value_of
value_small find here text v e = valued_small find here (terms_of text) v e

place_number : (section : Option (List ℕ)) (number : ℤ) (p : List ℕ × ℤ) → ok_or (option_map (λ s. (s, number)) section) NotRelocatable ≡ Ok p → number ≡ p.1
place_number None number p e = cc
place_number (Some s) number p e = grind arith

judged_place : (w : Result Value FaultKind) (p : List ℕ × ℤ) → ((v : Value) → w ≡ Ok v → unsigned_abs v.number ≤ bound) → then_check place_in w ≡ Ok p → unsigned_abs p.1 ≤ bound
judged_place (Ok v) p small e =
    let low = small v refl in
    let same = place_number v.section v.number p e in
    rw same at low
judged_place (Err fault) p small e = cc

pub place_small : (find : List ℕ → Option Value) (here : Option Value) (text : List ℕ) (p : List ℕ × ℤ) → then_check place_in (value_of find here text) ≡ Ok p
    → unsigned_abs p.1 ≤ 2 ^ 100
place_small find here text p e = judged_place (value_of find here text) p (value_small find here text) e
