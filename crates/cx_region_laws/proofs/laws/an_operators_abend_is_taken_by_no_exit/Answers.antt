use Rattle.cx_region_laws.proofs.AlterLemmas.{abends_look_at_no_exit}
use Rattle.cx_region_laws.proofs.laws.an_operators_abend_is_taken_by_no_exit.Goals as goal

pub returns-clause-exits : goal.returns-clause-exits
returns-clause-exits c = abends_look_at_no_exit
