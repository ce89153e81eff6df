use Rattle.cx_choices.proofs.MoveLemmas.{moves_decide, passages_decide}
use Rattle.cx_choices.proofs.SettlingLemmas as settling
use Rattle.cx_choices.proofs.laws.choices_decide.Goals as goal

pub returns-clause-settling : goal.returns-clause-settling
returns-clause-settling c = settling.settling_decides c.calls_decide.ensures.turns

pub returns-clause-passages : goal.returns-clause-passages
returns-clause-passages c = passages_decide c.calls_decide.ensures.turns c.calls_decide.ensures.keys

pub returns-clause-moves : goal.returns-clause-moves
returns-clause-moves c = moves_decide c.calls_decide.ensures.turns c.calls_decide.ensures.keys
