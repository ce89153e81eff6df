use Rattle.cx_look_script.proofs.NoteLemmas.{notes_refuse_nothing as refuse_nothing}
use Rattle.cx_look_script.proofs.laws.notes_refuse_nothing.Goals as goal

pub returns : goal.returns
returns c = refuse_nothing c.what_a_source_is_refused_for_is_kept.ensures
