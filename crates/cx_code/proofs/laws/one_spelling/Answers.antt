use Rattle.cx_code.proofs.LawLemmas.{one_spelling}
use Rattle.cx_code.proofs.laws.one_spelling.Goals as goal

pub returns : goal.returns
returns c = one_spelling
