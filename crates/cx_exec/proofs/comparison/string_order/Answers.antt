use Rattle.std.proofs.Common.{arith, ◌∙◌}
use Rattle.cx_exec.proofs.NumberLemmas.{first_differs, all_alike}
use Rattle.cx_exec.proofs.comparison.string_order.Goals as goal

pub returns-then-first-k-clause-value : goal.returns-then-first-k-clause-value
returns-then-first-k-clause-value c =
    c.byte_order.ensures.value
    ∙ first_differs _ _ _ c.requires (λ k. omega (arith, c.type_inv.first k)) (λ k. omega (arith, c.type_inv.second k)) c.loop-k-test.true c.loop-k.invariant c.if-first-k.true

pub returns-clause-value : goal.returns-clause-value
returns-clause-value c = all_alike _ _ c.requires (λ j h. c.loop-k.invariant j (omega (arith, h)))
