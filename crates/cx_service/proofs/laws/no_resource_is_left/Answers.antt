use Rattle.cx_service.proofs.ResourceSound.{none_of_owner}
use Rattle.cx_service.proofs.laws.no_resource_is_left.Goals as goal

pub returns : goal.returns
returns c = none_of_owner
