use Rattle.cx_storage.specs.Facts.Writes.{span_after_write}
use Rattle.cx_storage.proofs.WriteLemmas.{span_after_write_aside}
use Rattle.cx_storage.proofs.laws.span_after_write.Goals as goal

pub returns : goal.returns
returns c = record { same = span_after_write; aside = span_after_write_aside }
