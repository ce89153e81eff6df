use Rattle.cx_exec_laws.specs.Facts.Keeps.{runs_keep_areas}
use Rattle.cx_exec_laws.proofs.laws.runs_keep_areas.Goals as goal

pub returns : goal.returns
returns c = runs_keep_areas
