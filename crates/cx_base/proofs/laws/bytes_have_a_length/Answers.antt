use Rattle.cx_base.proofs.RowLemmas.{lengths}
use Rattle.cx_base.proofs.laws.bytes_have_a_length.Goals as goal

pub returns : goal.returns
returns c = lengths
