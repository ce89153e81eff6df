use Rattle.cx_look_steps.proofs.RunLemmas as lemmas
use Rattle.cx_look_steps.proofs.laws.steps_are_runs.Goals as goal

pub returns : goal.returns
returns c = lemmas.steps_are_runs c.a_turn_keeps_to_its_task.ensures.task c.a_key_keeps_to_its_terminal.ensures
