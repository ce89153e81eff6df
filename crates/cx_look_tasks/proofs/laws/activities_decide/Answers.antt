use Rattle.cx_look_tasks.proofs.WaitLemmas.{activities_decide}
use Rattle.cx_look_tasks.proofs.laws.activities_decide.Goals as goal

pub returns : goal.returns
returns c = activities_decide c.decisions_decide.ensures.decide
