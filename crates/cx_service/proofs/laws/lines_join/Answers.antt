use Rattle.cx_service.proofs.JoinLemmas.{lines_join}
use Rattle.cx_service.proofs.laws.lines_join.Goals as goal

pub returns : goal.returns
returns c = lines_join
