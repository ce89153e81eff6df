use Rattle.cx_code.proofs.LawLemmas.{length_read}
use Rattle.cx_code.proofs.laws.length_read.Goals as goal

pub returns : goal.returns
returns c = length_read
