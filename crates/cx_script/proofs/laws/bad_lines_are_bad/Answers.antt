use Rattle.cx_script.proofs.BadLineLemmas.{bad_lines_are_bad}
use Rattle.cx_script.proofs.laws.bad_lines_are_bad.Goals as goal

pub returns : goal.returns
returns g c = bad_lines_are_bad g.A.ScriptAction.language
