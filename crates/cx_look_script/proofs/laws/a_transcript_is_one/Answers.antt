use Rattle.cx_look_script.proofs.OutcomeLemmas.{inputs_decide, transcripts_decide}
use Rattle.cx_look_script.proofs.laws.a_transcript_is_one.Goals as goal

pub returns-clause-transcripts : goal.returns-clause-transcripts
returns-clause-transcripts c =
    transcripts_decide c.an_action_has_one_outcome.ensures c.a_turn_keeps_to_its_task.ensures.task c.a_key_keeps_to_its_terminal.ensures
    c.an_alteration_keeps_to_its_task.ensures.task

pub returns-clause-inputs : goal.returns-clause-inputs
returns-clause-inputs c =
    inputs_decide
    (transcripts_decide c.an_action_has_one_outcome.ensures c.a_turn_keeps_to_its_task.ensures.task c.a_key_keeps_to_its_terminal.ensures
    c.an_alteration_keeps_to_its_task.ensures.task)
