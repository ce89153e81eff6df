use Rattle.cx_exec_laws.proofs.PassageLemmas.{passages_decide as law}
use Rattle.cx_exec_laws.proofs.laws.passages_decide.Goals as goal

pub returns : goal.returns
returns c = law c.steps_decide.ensures
