use Rattle.cx_look_script.proofs.OutcomeLemmas.{actions_decide}
use Rattle.cx_look_script.proofs.laws.an_action_has_one_outcome.Goals as goal

pub returns : goal.returns
returns c =
    actions_decide c.noted_events_decide.ensures c.an_action_has_one_outcome.ensures c.runs_end_before_abends.ensures.decides c.looks_are_reported_once.ensures
    c.orders_are_reported_once.ensures c.choices_are_reported_once.ensures c.watched_texts_decide.ensures c.tallies_decide.ensures
