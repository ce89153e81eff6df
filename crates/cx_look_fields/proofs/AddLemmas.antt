-- One more, if there is one.
use Rattle.std.proofs.Common.{◌≡◌, Option, Some, None, List, [], ◌∷◌, ◌++◌, ap, append_assoc, append-nil}
use Rattle.std.specs.List.{cons_option}

pub added_before : {A : Type 0} (found rest : List A) (one : Option A) → (found ++ cons_option one []) ++ rest ≡ found ++ cons_option one rest
added_before found rest None = ap (λ xs. xs ++ rest) (append-nil found)
added_before found rest (Some x) = append_assoc found (x ∷ []) rest
