use Rattle.cx_orders.proofs.MoveLemmas as lemmas
use Rattle.cx_orders.proofs.laws.moves_decide.Goals as goal

pub returns : goal.returns
returns c = lemmas.moves_decide c.calls_decide.ensures.turns c.calls_decide.ensures.keys
