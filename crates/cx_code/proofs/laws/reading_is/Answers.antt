use Rattle.cx_code.proofs.LawLemmas.{reading_is}
use Rattle.cx_code.proofs.laws.reading_is.Goals as goal

pub returns : goal.returns
returns c = reading_is
