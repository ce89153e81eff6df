use Rattle.cx_code.proofs.LawLemmas.{formed_from}
use Rattle.cx_code.proofs.laws.read_is_well_formed.Goals as goal

pub returns : goal.returns
returns c = formed_from
