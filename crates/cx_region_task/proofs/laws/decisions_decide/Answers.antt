use Rattle.cx_region_task.proofs.DecideLemmas.{decisions_decide, waits_are_decided}
use Rattle.cx_region_task.proofs.laws.decisions_decide.Goals as goal

pub returns-clause-decide : goal.returns-clause-decide
returns-clause-decide c = decisions_decide c.a_call_is_judged_once.ensures

pub returns-clause-wait : goal.returns-clause-wait
returns-clause-wait c = waits_are_decided c.a_call_is_judged_once.ensures
