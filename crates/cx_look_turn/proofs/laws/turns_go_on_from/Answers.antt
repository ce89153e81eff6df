use Rattle.cx_look_turn.proofs.AfterLemmas.{machines_after_decide, turns_go_on_from as go_on}
use Rattle.cx_look_turn.proofs.laws.turns_go_on_from.Goals as goal

pub returns-clause-decide : goal.returns-clause-decide
returns-clause-decide c = machines_after_decide c.steps_decide.ensures

pub returns-clause-go_on : goal.returns-clause-go_on
returns-clause-go_on c = go_on c.steps_decide.ensures
