use Rattle.cx_storage.proofs.AreaLemmas.{byte_after_free, holder_after_free}
use Rattle.cx_storage.specs.Facts.Areas.{area_after_free}
use Rattle.cx_storage.proofs.laws.areas_freed.Goals as goal

pub returns : goal.returns
returns c = λ s keeps x ok. (byte_after_free s keeps x ok, area_after_free s keeps x ok, holder_after_free s keeps x ok)
