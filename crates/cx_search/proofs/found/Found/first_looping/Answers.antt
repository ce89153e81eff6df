use Rattle.std.proofs.Common.{arith, inl, inr, subst}
use Rattle.cx_search.specs.Found.{IsAt}
use Rattle.cx_search.proofs.ListLemmas.{item_at}
use Rattle.cx_search.proofs.FirstLemmas.{first_loop}
use Rattle.cx_search.proofs.SearchLemmas.{at_within, below_next, match_false, match_true}
use Rattle.cx_search.proofs.found.Found.first_looping.Goals as goal

pub loop-place-preserved : goal.loop-place-preserved
loop-place-preserved g c = λ space start f whole other state l at loops. elim (below_next other c.loop-place.place l) [
  | inl less ↦ c.loop-place.invariant space start f whole other state less at loops
  | inr e ↦
      match_false c.in_ok-loops.loops _ _
      (c.in_ok-loops.ensures space start state f whole (subst (λ p. IsAt c.args.self.now.states.entries p state) e at)) c.if-loops.false loops
]

pub returns-then-loops : goal.returns-then-loops
returns-then-loops g c = λ space start f whole known.
    let es = c.args.self.now.states.entries in
    let item = item_at es c.loop-place.place (omega (arith, c.loop-place-test.true, at_within es c.args.known known.state known.at)) in
    let at : IsAt es c.loop-place.place item.0.0 = record { origin = item.0.1; there = item.1 } in
    first_loop (g.T.Space.goes space) es c.loop-place.place item.0.0 at
    (match_true c.in_ok-loops.loops _ _ (c.in_ok-loops.ensures space start item.0.0 f whole at) c.if-loops.true) (c.loop-place.invariant space start f whole)

pub returns : goal.returns
returns g c = λ space start f whole known.
    record { is = known; first = λ other state l at. c.loop-place.invariant space start f whole other state (omega (arith, l, c.loop-place-test.false)) at }
