use Rattle.cx_look_script.proofs.SpotLemmas.{faults_are_marked as are_marked}
use Rattle.cx_look_script.proofs.laws.faults_are_marked.Goals as goal

pub returns : goal.returns
returns c = are_marked
