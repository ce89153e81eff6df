use Rattle.cx_storage.specs.Facts.Writes.{written_none}
use Rattle.cx_storage.specs.Facts.Writes.{byte_after_write}
use Rattle.cx_storage.proofs.laws.byte_after_write.Goals as goal

pub returns : goal.returns
returns c = record { whole = byte_after_write; nothing = written_none }
