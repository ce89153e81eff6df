use Rattle.cx_region_task.proofs.AbendRecordLemmas.{abend_records_decide, abend_records_explain}
use Rattle.cx_region_task.proofs.laws.abend_records_explain.Goals as goal

pub returns-clause-decide : goal.returns-clause-decide
returns-clause-decide c = abend_records_decide c.runs_decide.ensures c.a_call_is_judged_once.ensures

pub returns-clause-explain : goal.returns-clause-explain
returns-clause-explain c = abend_records_explain c.runs_decide.ensures c.a_call_is_judged_once.ensures
