use Rattle.cx_look_turn.proofs.RunLemmas.{visits_are_of_runs as are_of_runs}
use Rattle.cx_look_turn.proofs.laws.visits_are_of_runs.Goals as goal

pub returns : goal.returns
returns c = are_of_runs c.runs_decide.ensures
