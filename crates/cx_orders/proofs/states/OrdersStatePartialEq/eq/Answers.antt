use Rattle.cx_orders.specs.Facts.Same.{same_as}
use Rattle.cx_orders.proofs.states.OrdersStatePartialEq.eq.Goals as goal

pub returns : goal.returns
returns c = same_as c.is_same.result c.args.self.now c.args.other.now c.is_same.ensures
