use Rattle.cx_look_ahead.proofs.AfterLemmas.{after_decides}
use Rattle.cx_look_ahead.proofs.AtLemmas.{at_decides, turns_reach_it as reach_it}
use Rattle.cx_look_ahead.proofs.laws.turns_reach_it.Goals as goal

pub returns-clause-reached : goal.returns-clause-reached
returns-clause-reached c = reach_it c.turns_run_them.ensures

pub returns-clause-decides : goal.returns-clause-decides
returns-clause-decides c = at_decides c.steps_decide.ensures c.traces_decide.ensures

pub returns-clause-after : goal.returns-clause-after
returns-clause-after c = after_decides c.turns_go_on_from.ensures.decide
