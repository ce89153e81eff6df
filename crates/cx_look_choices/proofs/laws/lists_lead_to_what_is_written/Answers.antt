use Rattle.cx_look_choices.proofs.ListLeadLemmas.{lists_lead}
use Rattle.cx_look_choices.proofs.laws.lists_lead_to_what_is_written.Goals as goal

pub returns : goal.returns
returns g c =
    lists_lead c.presses_are_runs.ensures.runs c.texts_decide.ensures.waits (g.V.Seen.shows c.args.seen.now) c.shows_decide.ensures
