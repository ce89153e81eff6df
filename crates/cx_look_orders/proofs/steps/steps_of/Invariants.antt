use Rattle.cx_search.specs.Moves.{Leads}
use Rattle.cx_orders.specs.Moves.{Moves}
use Rattle.cx_orders.specs.declared.states.OrdersState.{OrdersState}
use Rattle.cx_look_orders.proofs.StepLemmas.{Walks}
use Rattle.cx_look_orders.proofs.steps.steps_of.Given as goal

abbrev pub invariant-loop-number : goal.invariant-loop-number
invariant-loop-number g l =
    (to : OrdersState) → Leads (Moves l.orders.keys) l.fn.start l.moves to
    → Walks (g.V.Seen.tells l.seen) l.orders.keys l.fn.start l.moves to l.number-index l.at l.steps.items
