use Rattle.cx_look_turn.proofs.NextTurnLemmas.{turns_run_them as run_them}
use Rattle.cx_look_turn.proofs.laws.turns_run_them.Goals as goal

pub returns : goal.returns
returns c = run_them c.visits_are_of_runs.ensures
