use Rattle.cx_storage.specs.Facts.Areas.{area_is_present}
use Rattle.cx_storage.proofs.laws.area_is_present.Goals as goal

pub returns : goal.returns
returns c = area_is_present
