use Rattle.cx_base.proofs.RowLemmas.{own_bits, apart}
use Rattle.cx_base.proofs.laws.options_have_bits_of_their_own.Goals as goal

pub returns-clause-one_bit : goal.returns-clause-one_bit
returns-clause-one_bit c = own_bits

pub returns-clause-apart : goal.returns-clause-apart
returns-clause-apart c = apart
