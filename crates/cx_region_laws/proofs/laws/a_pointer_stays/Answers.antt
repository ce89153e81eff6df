use Rattle.cx_region_laws.proofs.PointerLemmas.{outputs_stay, programs_go_on}
use Rattle.cx_region_laws.proofs.laws.a_pointer_stays.Goals as goal

pub returns-clause-program : goal.returns-clause-program
returns-clause-program c = programs_go_on

pub returns-clause-outputs : goal.returns-clause-outputs
returns-clause-outputs c = outputs_stay c.call_is_read.ensures
