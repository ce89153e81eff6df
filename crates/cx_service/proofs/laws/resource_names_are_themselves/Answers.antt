use Rattle.cx_service.proofs.NameLemmas.{resource_is}
use Rattle.cx_service.proofs.laws.resource_names_are_themselves.Goals as goal

pub returns : goal.returns
returns c = resource_is
