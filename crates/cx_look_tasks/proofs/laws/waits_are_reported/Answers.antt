use Rattle.cx_look_tasks.proofs.WaitLemmas.{waits_are_reported}
use Rattle.cx_look_tasks.proofs.laws.waits_are_reported.Goals as goal

pub returns : goal.returns
returns c = waits_are_reported c.decisions_decide.ensures.wait
