use Rattle.cx_exec_laws.proofs.DecideLemmas.{steps_decide}
use Rattle.cx_exec_laws.proofs.laws.steps_decide.Goals as goal

pub returns : goal.returns
returns c = steps_decide c.division_is_one.ensures
