use Rattle.cx_script.proofs.WholeLemmas.{ok_whole}
use Rattle.cx_script.proofs.laws.ok_is_the_whole_script.Goals as goal

pub returns : goal.returns
returns c = ok_whole
