-- The lowest of several faults, found one after the other.
use Rattle.std.proofs.Common.{◌≡◌, ℕ, ◌+◌, ◌<◌, Option, List, length, get_or, drop, map, add-one}
use Rattle.std.proofs.Math.Seq.{drop-cons}
use Rattle.cx_asm_expressions.specs.Facts.Faults.{lower_in_turn}
use Rattle.cx_asm_expressions.specs.Faults.{lower, lowest}
use Rattle.cx_asm_expressions.specs.declared.faults.FaultKind.{FaultKind}

-- one more of those that are left
pub one_item_more : {X : Type 0} (f : X → Option FaultKind) (fault : Option FaultKind) (xs : List X) (d : X) (i : ℕ) (all : Option FaultKind)
    → i < length xs
    → lower fault (lowest (map f (drop i xs))) ≡ all
    → lower (lower fault (f (get_or xs i d))) (lowest (map f (drop (i + 1) xs))) ≡ all
one_item_more f fault xs d i all within e =
    let one = drop-cons xs i d within in
    rw (add-one, lower_in_turn) (rw one at e)
