use Rattle.cx_look_ahead.proofs.ByteLemmas.{changes_are_written as are_written}
use Rattle.cx_look_ahead.proofs.laws.changes_are_written.Goals as goal

pub returns : goal.returns
returns c = are_written
