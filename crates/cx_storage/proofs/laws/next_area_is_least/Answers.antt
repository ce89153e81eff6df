use Rattle.cx_storage.proofs.AreaLemmas.{next_area_is_least}
use Rattle.cx_storage.proofs.laws.next_area_is_least.Goals as goal

pub returns : goal.returns
returns c = next_area_is_least
