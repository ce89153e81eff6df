use Rattle.cx_script.proofs.ActionLemmas.{actions_decide}
use Rattle.cx_script.proofs.laws.an_action_has_one_outcome.Goals as goal

pub returns : goal.returns
returns c = actions_decide c.edf_events_decide.ensures
