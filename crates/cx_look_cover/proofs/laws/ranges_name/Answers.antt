use Rattle.cx_look_cover.proofs.RangeLemmas.{ranges_name as law}
use Rattle.cx_look_cover.proofs.laws.ranges_name.Goals as goal

pub returns : goal.returns
returns c = law
