use Rattle.cx_code.proofs.LawLemmas.{first_bits}
use Rattle.cx_code.proofs.laws.first_bits.Goals as goal

pub returns : goal.returns
returns c = first_bits
