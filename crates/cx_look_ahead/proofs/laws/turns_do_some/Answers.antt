use Rattle.cx_look_ahead.proofs.ArrivalLemmas.{arrivals_decide, turns_do_some as do_some}
use Rattle.cx_look_ahead.proofs.laws.turns_do_some.Goals as goal

pub returns-clause-done : goal.returns-clause-done
returns-clause-done c = do_some c.turns_run_them.ensures

pub returns-clause-decides : goal.returns-clause-decides
returns-clause-decides c = arrivals_decide c.traces_decide.ensures
