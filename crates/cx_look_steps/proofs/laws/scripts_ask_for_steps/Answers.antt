use Rattle.cx_look_steps.proofs.ScriptLemmas as lemmas
use Rattle.cx_look_steps.proofs.laws.scripts_ask_for_steps.Goals as goal

pub returns : goal.returns
returns c = lemmas.scripts_ask_for_steps
