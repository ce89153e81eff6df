use Rattle.cx_search.proofs.PathLemmas.{first_one}
use Rattle.cx_search.proofs.laws.one_list_leads_first.Goals as goal

pub returns : goal.returns
returns g c = λ space. first_one (g.T.Space.goes space)
