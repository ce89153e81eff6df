use Rattle.cx_code.proofs.LawLemmas.{no_front}
use Rattle.cx_code.proofs.laws.no_front.Goals as goal

pub returns : goal.returns
returns c = no_front
