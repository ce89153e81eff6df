use Rattle.cx_exec_laws.proofs.PassageLemmas.{watches_decide as law}
use Rattle.cx_exec_laws.proofs.laws.watches_decide.Goals as goal

pub returns : goal.returns
returns g c = law _ c.passages_decide.ensures
