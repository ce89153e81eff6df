use Rattle.cx_search.specs.Facts.Loops.{bounded_never_loops, loop_leads_on}
use Rattle.cx_search.proofs.laws.a_loop_leads_on.Goals as goal

pub returns-clause-on : goal.returns-clause-on
returns-clause-on g c = λ space. loop_leads_on (g.T.Space.goes space)

pub returns-clause-bounded : goal.returns-clause-bounded
returns-clause-bounded g c = λ space. bounded_never_loops (g.T.Space.goes space)
