use Rattle.cx_storage.proofs.WriteLemmas.{others_after_write}
use Rattle.cx_storage.proofs.laws.others_stay.Goals as goal

pub returns : goal.returns
returns c = others_after_write
