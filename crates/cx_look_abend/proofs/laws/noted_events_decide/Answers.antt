use Rattle.cx_look_abend.proofs.KeptLemmas.{noted_decide}
use Rattle.cx_look_abend.proofs.laws.noted_events_decide.Goals as goal

pub returns : goal.returns
returns c = noted_decide c.edf_events_decide.ensures c.abend_records_explain.ensures.decide c.runs_decide.ensures
