use Rattle.cx_region_laws.proofs.CommandLemmas.{commands_leave_others}
use Rattle.cx_region_laws.proofs.laws.commands_leave_others.Goals as goal

pub returns : goal.returns
returns c = commands_leave_others c.call_is_read.ensures
