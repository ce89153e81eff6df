use Rattle.cx_region_laws.proofs.ReturnLemmas.{returns_have_callers}
use Rattle.cx_region_laws.proofs.laws.a_return_has_a_caller.Goals as goal

pub returns : goal.returns
returns c = returns_have_callers
