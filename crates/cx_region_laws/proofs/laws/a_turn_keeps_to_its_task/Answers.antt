use Rattle.cx_region_laws.proofs.KeepsLemmas.{turned_keeps, turned_keeps_others}
use Rattle.cx_region_laws.proofs.laws.a_turn_keeps_to_its_task.Goals as goal

pub returns-clause-task : goal.returns-clause-task
returns-clause-task c = turned_keeps c.half_turns_stay.ensures

pub returns-clause-others : goal.returns-clause-others
returns-clause-others c = turned_keeps_others c.half_turns_keep.ensures
