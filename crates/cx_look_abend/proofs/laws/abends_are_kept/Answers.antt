use Rattle.cx_look_abend.proofs.KeptLemmas.{abends_are_kept}
use Rattle.cx_look_abend.proofs.laws.abends_are_kept.Goals as goal

pub returns : goal.returns
returns c = abends_are_kept c.abend_records_explain.ensures.explain
