use Rattle.cx_look_abend.proofs.DumpLemmas.{dumps_are_of_records as are_of_records}
use Rattle.cx_look_abend.proofs.laws.dumps_are_of_records.Goals as goal

pub returns : goal.returns
returns c = are_of_records c.runs_decide.ensures
