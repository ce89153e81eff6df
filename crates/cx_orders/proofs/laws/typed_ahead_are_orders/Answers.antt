use Rattle.cx_orders.proofs.TypedLemmas.{typed_are_orders}
use Rattle.cx_orders.proofs.laws.typed_ahead_are_orders.Goals as goal

pub returns : goal.returns
returns c =
    typed_are_orders c.a_turn_keeps_to_its_task.ensures.task c.a_key_keeps_to_its_terminal.ensures c.waiting_leaves_the_region.ensures
