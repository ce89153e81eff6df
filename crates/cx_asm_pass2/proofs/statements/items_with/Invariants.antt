use Rattle.std.proofs.Common.{◌≡◌, ◌++◌, drop, map}
use Rattle.std.specs.List.{zip}
use Rattle.cx_asm_pass2.proofs.statements.items_with.Given as goal

abbrev pub invariant-loop-index : goal.invariant-loop-index
invariant-loop-index l =
    l.found.items ++ zip (map (λ text. text.now) (drop l.index l.texts)) (drop l.index l.offsets) ≡ zip (map (λ text. text.now) l.texts) l.offsets
