use Rattle.cx_look_turn.proofs.RunLemmas.{traces_decide as decide}
use Rattle.cx_look_turn.proofs.laws.traces_decide.Goals as goal

pub returns : goal.returns
returns c = decide c.steps_decide.ensures
