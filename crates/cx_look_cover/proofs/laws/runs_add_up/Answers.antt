use Rattle.cx_look_cover.proofs.SumLemmas.{runs_add_up as add_up}
use Rattle.cx_look_cover.proofs.laws.runs_add_up.Goals as goal

pub returns : goal.returns
returns c = add_up
