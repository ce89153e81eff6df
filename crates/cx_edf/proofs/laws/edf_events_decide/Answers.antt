use Rattle.cx_edf.proofs.LawLemmas.{edf_events_decide}
use Rattle.cx_edf.proofs.laws.edf_events_decide.Goals as goal

pub returns : goal.returns
returns c = edf_events_decide c.events_decide.ensures
