use Rattle.cx_region_laws.proofs.DecideLemmas.{runs_decide}
use Rattle.cx_region_laws.proofs.laws.runs_decide.Goals as goal

pub returns : goal.returns
returns c = runs_decide c.events_decide.ensures
