use Rattle.cx_search.proofs.OrderLemmas.{sooner_cases, sooner_not_self, sooner_trans}
use Rattle.cx_search.proofs.laws.one_list_is_sooner.Goals as goal

pub returns : goal.returns
returns c = record { either = sooner_cases; not_self = sooner_not_self; onward = sooner_trans }
