use Rattle.cx_search.proofs.WithinLemmas.{one_reach}
use Rattle.cx_search.proofs.laws.reaches_decide.Goals as goal

pub returns : goal.returns
returns g c space start = one_reach (g.T.Space.goes space) start
