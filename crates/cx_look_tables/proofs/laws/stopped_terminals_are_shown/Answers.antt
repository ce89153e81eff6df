use Rattle.cx_look_tables.proofs.ShownLemmas.{stopped_are_shown}
use Rattle.cx_look_tables.proofs.laws.stopped_terminals_are_shown.Goals as goal

pub returns : goal.returns
returns c = stopped_are_shown
