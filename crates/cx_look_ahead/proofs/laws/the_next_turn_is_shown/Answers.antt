use Rattle.cx_look_ahead.proofs.AheadLemmas.{ahead_decides, next_turn_is_shown}
use Rattle.cx_look_ahead.proofs.laws.the_next_turn_is_shown.Goals as goal

pub returns-clause-shown : goal.returns-clause-shown
returns-clause-shown c = next_turn_is_shown c.calls_decide.ensures.turns

pub returns-clause-decides : goal.returns-clause-decides
returns-clause-decides c = ahead_decides c.calls_decide.ensures.turns c.traces_decide.ensures
