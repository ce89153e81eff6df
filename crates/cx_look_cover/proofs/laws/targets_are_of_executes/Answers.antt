use Rattle.cx_look_cover.proofs.ExecuteLemmas.{targets_are_of_executes as law}
use Rattle.cx_look_cover.proofs.laws.targets_are_of_executes.Goals as goal

pub returns : goal.returns
returns c = law c.read_by_first_byte.ensures.known c.read_by_first_byte.ensures.only
