use Rattle.cx_code.proofs.LawLemmas.{one_row}
use Rattle.cx_code.proofs.laws.one_row.Goals as goal

pub returns : goal.returns
returns c = one_row
