use Rattle.std.proofs.Common.{◌+◌, arith, subst, sym}
use Rattle.cx_search.proofs.RestLemmas.{AreSoFar, resting_all, so_far_next}
use Rattle.cx_search.proofs.found.Found.resting.Goals as goal

pub loop-place-preserved : goal.loop-place-preserved
loop-place-preserved g c =
    subst (AreSoFar (g.T.Space.goes c.args.space.now) c.args.self.now.states.entries c.args.cut (c.loop-place.place + 1)) (sym c.in_ok-push_if.ensures)
    (so_far_next (g.T.Space.goes c.args.space.now) c.args.self.now.states.entries c.args.cut c.loop-place.place c.loop-place.places.items c.in_ok-rests.rests
    c.loop-place.invariant c.in_ok-rests.ensures)

pub returns : goal.returns
returns g c =
    resting_all (g.T.Space.goes c.args.space.now) c.args.self.now.states.entries c.args.cut c.loop-place.place c.loop-place.places.items c.loop-place.invariant
    (omega (arith, c.loop-place-test.false, c.len-place-end.ensures.len))
