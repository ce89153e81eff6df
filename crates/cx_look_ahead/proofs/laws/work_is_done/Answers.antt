use Rattle.cx_look_ahead.proofs.DoneLemmas.{work_is_done as are_done}
use Rattle.cx_look_ahead.proofs.laws.work_is_done.Goals as goal

pub returns : goal.returns
returns c = are_done
