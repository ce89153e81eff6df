use Rattle.cx_region_task.proofs.HalfLemmas.{half_turn_keeps}
use Rattle.cx_region_task.proofs.laws.half_turns_keep.Goals as goal

pub returns : goal.returns
returns c = half_turn_keeps
