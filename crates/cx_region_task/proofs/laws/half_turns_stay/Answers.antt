use Rattle.cx_region_task.proofs.StayLemmas.{half_turn_stays}
use Rattle.cx_region_task.proofs.laws.half_turns_stay.Goals as goal

pub returns : goal.returns
returns c = half_turn_stays
