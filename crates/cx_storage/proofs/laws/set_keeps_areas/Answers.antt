use Rattle.cx_storage.specs.Facts.Writes.{areas_after_set, holder_after_set, present_after_set, span_present_after_set}
use Rattle.cx_storage.proofs.laws.set_keeps_areas.Goals as goal

pub returns : goal.returns
returns c = λ s a v. (areas_after_set s a v, holder_after_set s a v, present_after_set s a v, span_present_after_set s a v)
