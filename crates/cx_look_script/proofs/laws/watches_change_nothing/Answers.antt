use Rattle.cx_look_script.proofs.WatchLawLemmas.{watches_change_nothing, watches_stay}
use Rattle.cx_look_script.proofs.laws.watches_change_nothing.Goals as goal

pub returns-clause-same : goal.returns-clause-same
returns-clause-same c = watches_change_nothing

pub returns-clause-stay : goal.returns-clause-stay
returns-clause-stay c = watches_stay
