use Rattle.cx_look_script.proofs.CoverLemmas.{cover_adds_up as adds_up}
use Rattle.cx_look_script.proofs.laws.cover_adds_up.Goals as goal

pub returns : goal.returns
returns c = adds_up c.runs_add_up.ensures
