use Rattle.std.proofs.Common.{inl, inr, subst}
use Rattle.cx_search.proofs.SearchLemmas.{below_next, goes_none, goes_some}
use Rattle.cx_search.proofs.rest.is_at_rest.Goals as goal

pub loop-number-preserved : goal.loop-number-preserved
loop-number-preserved g c = λ number to l moved. elim (below_next number c.loop-number.number l) [
  | inl less ↦ c.loop-number.invariant number to less moved
  | inr e ↦
      goes_none (g.T.Space.goes c.args.space.now) c.args.state.now c.loop-number.number c.in_ok-_to.field-0 c.in_ok-_to.ensures c.in_default.is to
      (subst (λ n. g.T.Space.goes c.args.space.now c.args.state.now n to) e moved)
]

pub returns-in-Some : goal.returns-in-Some
returns-in-Some g c = λ rest.
    rest c.loop-number.number c.in-Some._to
    (goes_some (g.T.Space.goes c.args.space.now) c.args.state.now c.loop-number.number c.in_ok-_to.field-0 c.in-Some._to c.in_ok-_to.ensures c.in-Some.is).goes
