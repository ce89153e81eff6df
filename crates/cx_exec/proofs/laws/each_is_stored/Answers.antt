use Rattle.cx_exec.proofs.SequenceLemmas.{each_is_stored}
use Rattle.cx_exec.proofs.laws.each_is_stored.Goals as goal

pub returns : goal.returns
returns c = each_is_stored
