use Rattle.cx_exec.proofs.DivideLemmas.{division_once}
use Rattle.cx_exec.proofs.laws.division_is_one.Goals as goal

pub returns : goal.returns
returns c = division_once
