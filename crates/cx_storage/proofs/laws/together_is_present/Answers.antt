use Rattle.cx_storage.specs.Facts.Areas.{together_present, area_is_together}
use Rattle.cx_storage.proofs.laws.together_is_present.Goals as goal

pub returns-clause-present : goal.returns-clause-present
returns-clause-present c = together_present

pub returns-clause-area : goal.returns-clause-area
returns-clause-area c = area_is_together
