use Rattle.cx_script.proofs.FrontLemmas.{fronts_are_scripts}
use Rattle.cx_script.proofs.laws.fronts_are_scripts.Goals as goal

pub returns : goal.returns
returns g c = fronts_are_scripts g.A.ScriptAction.language
