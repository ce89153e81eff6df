use Rattle.cx_exec_laws.proofs.LawLemmas.{shifted_is_floor}
use Rattle.cx_exec_laws.proofs.laws.shifted_is_floor.Goals as goal

pub returns : goal.returns
returns c = shifted_is_floor
