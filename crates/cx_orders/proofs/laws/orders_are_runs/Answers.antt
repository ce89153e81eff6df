use Rattle.cx_orders.proofs.RunLemmas as lemmas
use Rattle.cx_orders.proofs.laws.orders_are_runs.Goals as goal

pub returns : goal.returns
returns c = lemmas.orders_are_runs
