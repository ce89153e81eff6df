use Rattle.cx_look_script.proofs.AskLemmas.{scripts_ask}
use Rattle.cx_look_script.proofs.laws.scripts_ask_for_events.Goals as goal

pub returns : goal.returns
returns c = scripts_ask c.shown_as_itself.ensures c.scripts_ask_for_steps.ensures
