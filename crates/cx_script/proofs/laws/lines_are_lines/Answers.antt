use Rattle.cx_script.proofs.WholeLemmas.{same_lines_met}
use Rattle.cx_script.proofs.laws.lines_are_lines.Goals as goal

pub returns : goal.returns
returns c = same_lines_met
