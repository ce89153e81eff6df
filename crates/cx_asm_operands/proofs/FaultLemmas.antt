-- The lowest of several faults, found one after the other.
use Rattle.std.proofs.Common.{◌≡◌, ℕ, ◌+◌, ◌<◌, Option, Some, None, Ok, Err, List, [], ◌∷◌, ◌++◌, length, get_or, drop, map, add-one, append-nil, append_assoc, refl, arith}
use Rattle.std.specs.Prelude.{Result}
use Rattle.std.proofs.Math.Seq.{drop-cons}
use Rattle.std.specs.List.{cons_option}
use Rattle.std.specs.Result.{result_ok, result_err}
use denote.Ref.{Bor}
use Rattle.std.proofs.lemmas.Bool.Decides.{nat_tests}
use Rattle.cx_asm_expressions.specs.Facts.Faults.{lower_in_turn}
use Rattle.cx_asm_expressions.specs.Faults.{lower, lowest}
use Rattle.cx_asm_expressions.specs.declared.faults.FaultKind.{FaultKind}
use Rattle.cx_asm_operands.specs.Context.{Context, expression_value, register_in}
use Rattle.cx_asm_operands.specs.Checking.{both_or_lower_fault, with_made}
use Rattle.cx_asm_operands.specs.Directives.{registers_in}

-- the fault of one expression more
pub value_fault_more : (c : Context) (fault : Option FaultKind) (texts : List (Bor (List ℕ))) (d : Bor (List ℕ)) (i : ℕ) (whole : Option FaultKind)
    → i < length texts
    → lower fault (lowest (map (λ t. result_err (expression_value c t)) (map (λ t. t.now) (drop i texts)))) ≡ whole
    → lower (lower fault (result_err (expression_value c (get_or texts i d).now))) (lowest (map (λ t. result_err (expression_value c t)) (map (λ t. t.now) (drop (i + 1) texts)))) ≡ whole
value_fault_more c fault texts d i whole within e =
    let one = drop-cons texts i d within in
    rw (add-one, lower_in_turn) (rw one at e)

-- what was found so far, unless there was a fault, with what is found after it
abbrev pub so_far : Option FaultKind → List ℕ → Result (List ℕ) FaultKind
so_far None found = Ok found
so_far (Some fault) found = Err fault

abbrev pub with_rest : Option FaultKind → List ℕ → Result (List ℕ) FaultKind → Result (List ℕ) FaultKind
with_rest fault found rest = with_made (λ v. v.0 ++ v.1) (both_or_lower_fault (so_far fault found) rest)

-- one more
with_one : (fault : Option FaultKind) (found : List ℕ) (one : Result ℕ FaultKind) (rest : Result (List ℕ) FaultKind)
    → with_rest fault found (with_made (λ v. v.0 ∷ v.1) (both_or_lower_fault one rest))
    ≡ with_rest (lower fault (result_err one)) (found ++ cons_option (result_ok one) []) rest
with_one None found (Ok one) (Ok rest) = simp append_assoc
with_one None found (Ok one) (Err f) = refl
with_one None found (Err e) (Ok rest) = refl
with_one None found (Err e) (Err f) = refl
with_one (Some g) found (Ok one) (Ok rest) = refl
with_one (Some g) found (Ok one) (Err f) = refl
with_one (Some g) found (Err e) (Ok rest) = refl
with_one (Some g) found (Err e) (Err f) = grind (arith, nat_tests)

pub register_more : (c : Context) (fault : Option FaultKind) (found : List ℕ) (texts : List (Bor (List ℕ))) (d : Bor (List ℕ)) (i : ℕ)
    (whole : Result (List ℕ) FaultKind) → i < length texts
    → with_rest fault found (registers_in c (map (λ t. t.now) (drop i texts))) ≡ whole
    → with_rest (lower fault (result_err (register_in c (get_or texts i d).now)))
    (found ++ cons_option (result_ok (register_in c (get_or texts i d).now)) []) (registers_in c (map (λ t. t.now) (drop (i + 1) texts))) ≡ whole
register_more c fault found texts d i whole within e =
    let one = drop-cons texts i d within in
    rw (add-one, ← with_one) (rw one at e)

-- no more
pub registers_end : (fault : Option FaultKind) (found : List ℕ) → with_rest fault found (Ok []) ≡ so_far fault found
registers_end None found = simp append-nil
registers_end (Some fault) found = refl
