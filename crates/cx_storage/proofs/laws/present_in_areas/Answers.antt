use Rattle.cx_storage.specs.Facts.Sound.{byte_small, byte_beyond}
use Rattle.cx_storage.specs.Facts.Areas.{present_in_areas}
use Rattle.cx_storage.proofs.AreaLemmas.{present_held}
use Rattle.cx_storage.proofs.laws.present_in_areas.Goals as goal

pub returns : goal.returns
returns c = λ s x ok. (present_in_areas s x ok, present_held s x ok, λ v e. byte_small s x v ok e, λ past. byte_beyond s x ok past)
