-- The lowest of several faults, found one after the other.
use Rattle.std.proofs.Common.{◌≡◌, ℕ, ◌+◌, ◌<◌, length, get_or, drop, add-one, Option, Some, None, List, [], ◌++◌, append-nil, append_assoc}
use Rattle.std.specs.List.{cons_option}
use Rattle.std.specs.Result.{result_err}
use Rattle.cx_asm_expressions.proofs.TermLemmas.{drop_item}
use Rattle.cx_asm_expressions.specs.Terms.{Term}
use Rattle.cx_asm_expressions.specs.TermValues.{term_value}
use Rattle.cx_asm_expressions.specs.declared.values.Value.{Value}
use Rattle.cx_asm_expressions.specs.Facts.Faults.{lower_in_turn}
use Rattle.cx_asm_expressions.specs.Faults.{lower}
use Rattle.cx_asm_expressions.specs.Expressions.{lowest_fault}
use Rattle.cx_asm_expressions.specs.declared.faults.FaultKind.{FaultKind}

pub put_one : {X : Type 0} (front : List X) (one : Option X) (rest : List X) → (front ++ cons_option one []) ++ rest ≡ front ++ cons_option one rest
put_one front None rest = simp append-nil
put_one front (Some x) rest = simp append_assoc

-- one term more
pub fault_more : (find : List ℕ → Option Value) (here : Option Value) (fault : Option FaultKind) (terms : List Term) (term : Term) (i : ℕ) (whole : Option FaultKind)
    → i < length terms → term ≡ get_or terms i term → lower fault (lowest_fault find here (drop i terms)) ≡ whole
    → lower (lower fault (result_err (term_value find here term))) (lowest_fault find here (drop (i + 1) terms)) ≡ whole
fault_more find here fault terms term i whole within is e =
    let one = drop_item terms i term within is in
    rw (add-one, lower_in_turn) (rw one at e)
