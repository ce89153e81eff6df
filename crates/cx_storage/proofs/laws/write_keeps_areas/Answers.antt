use Rattle.cx_storage.specs.Facts.Writes.{areas_after_write, present_after_write, span_present_after_write}
use Rattle.cx_storage.proofs.WriteLemmas.{holder_after_write}
use Rattle.cx_storage.proofs.laws.write_keeps_areas.Goals as goal

pub returns : goal.returns
returns c = λ s a bytes. (areas_after_write s a bytes, holder_after_write s a bytes, present_after_write s a bytes, span_present_after_write s a bytes)
