use Rattle.cx_region_task.proofs.DecideLemmas.{waits_leave}
use Rattle.cx_region_task.proofs.laws.waits_leave.Goals as goal

pub returns : goal.returns
returns c = waits_leave
