use Rattle.cx_storage.specs.Facts.Areas.{same_storage}
use Rattle.cx_storage.proofs.laws.same_storage.Goals as goal

pub returns : goal.returns
returns c = same_storage
