use Rattle.cx_look_script.proofs.OrdersLemmas.{orders_once}
use Rattle.cx_look_script.proofs.laws.orders_are_reported_once.Goals as goal

pub returns : goal.returns
returns c = orders_once c.moves_decide.ensures c.calls_decide.ensures.turns c.a_turn_keeps_to_its_task.ensures.task c.a_key_keeps_to_its_terminal.ensures c.one_list_is_sooner.ensures
