use Rattle.cx_region_task.proofs.TurnDecide.{half_turns_decide}
use Rattle.cx_region_task.proofs.laws.half_turns_decide.Goals as goal

pub returns : goal.returns
returns c = half_turns_decide c.runs_decide.ensures c.a_shown_text_is_decided.ensures c.a_call_is_judged_once.ensures
