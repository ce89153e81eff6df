use Rattle.cx_orders.specs.Moves.{begun}
use Rattle.cx_look_orders.specs.Parts.Ways.{AreOfFirst}
use Rattle.cx_look_orders.proofs.outcomes.outcomes_of.Given as goal

abbrev pub invariant-loop-index : goal.invariant-loop-index
invariant-loop-index g l =
    AreOfFirst (g.V.Seen.shows l.searched.seen.now) (g.V.Seen.tells l.searched.seen.now) l.searched.orders.now.keys (begun l.searched.region.now) l.searched.found.now.states.entries l.places l.index l.outcomes.items
