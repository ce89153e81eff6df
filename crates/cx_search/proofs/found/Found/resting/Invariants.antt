use Rattle.cx_search.proofs.RestLemmas.{AreSoFar}
use Rattle.cx_search.proofs.found.Found.resting.Given as goal

abbrev pub invariant-loop-place : goal.invariant-loop-place
invariant-loop-place g l = AreSoFar (g.T.Space.goes l.space) l.self.states.entries l.cut l.place l.places.items
