use Rattle.cx_region_laws.proofs.KeepsLemmas.{still_turns_leave}
use Rattle.cx_region_laws.proofs.laws.waiting_leaves_the_region.Goals as goal

pub returns : goal.returns
returns c = still_turns_leave c.half_turns_stay.ensures c.waits_leave.ensures
