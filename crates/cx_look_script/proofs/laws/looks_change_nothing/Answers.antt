use Rattle.cx_look_script.proofs.LawLemmas.{looks_change_nothing as changed_nothing}
use Rattle.cx_look_script.proofs.laws.looks_change_nothing.Goals as goal

pub returns : goal.returns
returns c = changed_nothing
