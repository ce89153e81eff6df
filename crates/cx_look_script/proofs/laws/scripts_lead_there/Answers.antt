use Rattle.cx_look_script.proofs.LeadLemmas.{scripts_lead}
use Rattle.cx_look_script.proofs.laws.scripts_lead_there.Goals as goal

pub returns : goal.returns
returns c =
    scripts_lead c.shown_as_itself.ensures c.scripts_ask_for_steps.ensures c.events_decide.ensures c.what_is_erased_changes_nothing.ensures.passed
    c.sessions_keep_apart.ensures.set c.sessions_keep_apart.ensures.others
