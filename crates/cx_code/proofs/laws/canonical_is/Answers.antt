use Rattle.cx_code.proofs.LawLemmas.{canonical_is}
use Rattle.cx_code.proofs.laws.canonical_is.Goals as goal

pub returns : goal.returns
returns c = canonical_is
