use Rattle.cx_look_script.proofs.ChoicesLemmas.{choices_once}
use Rattle.cx_look_script.proofs.laws.choices_are_reported_once.Goals as goal

pub returns : goal.returns
returns c =
    choices_once c.choices_decide.ensures.passages c.one_list_is_sooner.ensures c.texts_decide.ensures.waits c.texts_decide.ensures.tasks c.texts_decide.ensures.resources
    c.the_next_turn_is_shown.ensures.decides c.turns_reach_it.ensures.decides c.turns_reach_it.ensures.after
