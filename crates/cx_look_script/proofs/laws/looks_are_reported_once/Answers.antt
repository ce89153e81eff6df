use Rattle.cx_look_script.proofs.MarkLemmas.{looks_are_reported_once as reported_once}
use Rattle.cx_look_script.proofs.laws.looks_are_reported_once.Goals as goal

pub returns : goal.returns
returns c =
    reported_once c.texts_decide.ensures.tasks c.texts_decide.ensures.resources c.the_next_turn_is_shown.ensures.decides c.turns_reach_it.ensures.decides
    c.turns_reach_it.ensures.after
