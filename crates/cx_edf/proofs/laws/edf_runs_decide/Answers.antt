use Rattle.cx_edf.proofs.LawLemmas.{edf_runs_decide}
use Rattle.cx_edf.proofs.laws.edf_runs_decide.Goals as goal

pub returns : goal.returns
returns c = edf_runs_decide c.events_decide.ensures
