use Rattle.cx_code.proofs.LawLemmas.{read_before_rest}
use Rattle.cx_code.proofs.laws.read_before_rest.Goals as goal

pub returns : goal.returns
returns c = read_before_rest
