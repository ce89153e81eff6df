use Rattle.cx_region_laws.proofs.DecideLemmas.{events_decide}
use Rattle.cx_region_laws.proofs.laws.events_decide.Goals as goal

pub returns : goal.returns
returns c = events_decide c.loading_decides.ensures c.half_turns_decide.ensures
