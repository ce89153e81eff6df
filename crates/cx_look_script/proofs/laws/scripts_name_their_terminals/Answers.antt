use Rattle.cx_look_script.proofs.NamedLemmas.{scripts_name}
use Rattle.cx_look_script.proofs.laws.scripts_name_their_terminals.Goals as goal

pub returns : goal.returns
returns c = scripts_name c.a_turn_keeps_to_its_task.ensures.task c.a_key_keeps_to_its_terminal.ensures c.an_alteration_keeps_to_its_task.ensures.task
