use Rattle.cx_base.proofs.ArgumentLemmas.{found_argument}
use Rattle.cx_base.proofs.laws.arguments_are_found_by_name.Goals as goal

pub returns : goal.returns
returns c = found_argument
