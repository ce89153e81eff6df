use Rattle.cx_look_script.proofs.StopLemmas.{runs_end_before_lines as end_before_lines}
use Rattle.cx_look_script.proofs.laws.runs_end_before_lines.Goals as goal

pub returns : goal.returns
returns c = end_before_lines c.turns_do_some.ensures.done
