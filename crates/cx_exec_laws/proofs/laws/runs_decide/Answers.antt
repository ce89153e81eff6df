use Rattle.cx_exec_laws.proofs.DecideLemmas.{runs_decide}
use Rattle.cx_exec_laws.proofs.laws.runs_decide.Goals as goal

pub returns : goal.returns
returns c = runs_decide c.division_is_one.ensures
