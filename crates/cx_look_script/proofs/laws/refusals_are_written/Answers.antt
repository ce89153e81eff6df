use Rattle.cx_look_script.proofs.NoteLemmas.{refusals_written}
use Rattle.cx_look_script.proofs.laws.refusals_are_written.Goals as goal

pub returns : goal.returns
returns c = refusals_written c.what_a_source_is_refused_for_is_kept.ensures
