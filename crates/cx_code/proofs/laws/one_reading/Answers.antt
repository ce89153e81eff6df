use Rattle.cx_code.proofs.LawLemmas.{one_reading}
use Rattle.cx_code.proofs.laws.one_reading.Goals as goal

pub returns : goal.returns
returns c = one_reading
