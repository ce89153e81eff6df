use Rattle.cx_look_choices.specs.Facts.Presses.{presses_lead}
use Rattle.cx_look_choices.proofs.PressRunLemmas as lemmas
use Rattle.cx_look_choices.proofs.laws.presses_are_runs.Goals as goal

pub returns : goal.returns
returns c = record {
  lead = presses_lead;
  runs = lemmas.presses_are_runs c.acting_turns_move.ensures c.a_turn_keeps_to_its_task.ensures.task
      c.a_key_keeps_to_its_terminal.ensures;
}
