use Rattle.cx_storage.specs.Facts.Areas.{byte_after_get, area_after_get}
use Rattle.cx_storage.proofs.AreaLemmas.{holder_after_get}
use Rattle.cx_storage.proofs.laws.fresh_area.Goals as goal

pub returns : goal.returns
returns c = λ s first last len a owner x ok some can.
    (byte_after_get s first last len a owner x can, area_after_get s first last len a owner x ok some can, holder_after_get s first last len a owner x can)
