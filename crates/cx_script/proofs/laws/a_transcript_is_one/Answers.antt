use Rattle.cx_script.proofs.WholeLemmas.{one_transcript}
use Rattle.cx_script_actions.specs.Effects.{Performs}
use Rattle.cx_script.proofs.laws.a_transcript_is_one.Goals as goal

pub returns : goal.returns
returns c = λ make. one_transcript (Performs make) (c.an_action_has_one_outcome.ensures make)
