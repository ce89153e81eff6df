use Rattle.cx_look_script.proofs.SameLemmas.{actions_stay, scripts_stay}
use Rattle.cx_look_script.proofs.laws.scripts_of_cicsedf_stay.Goals as goal

pub returns-clause-scripts : goal.returns-clause-scripts
returns-clause-scripts c = scripts_stay

pub returns-clause-actions : goal.returns-clause-actions
returns-clause-actions c = actions_stay
