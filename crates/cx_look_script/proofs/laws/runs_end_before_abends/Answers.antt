use Rattle.cx_look_script.proofs.StopLemmas.{runs_end_before_abends as end_before_abends, stops_decide}
use Rattle.cx_look_script.proofs.laws.runs_end_before_abends.Goals as goal

pub returns-clause-ends : goal.returns-clause-ends
returns-clause-ends c = end_before_abends c.calls_decide.ensures.turns

pub returns-clause-decides : goal.returns-clause-decides
returns-clause-decides c = stops_decide c.calls_decide.ensures.turns c.turns_do_some.ensures.decides
