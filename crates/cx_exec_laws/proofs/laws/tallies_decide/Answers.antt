use Rattle.cx_exec_laws.proofs.PassageLemmas.{tallies_decide as law}
use Rattle.cx_exec_laws.proofs.laws.tallies_decide.Goals as goal

pub returns : goal.returns
returns c = law c.passages_decide.ensures
