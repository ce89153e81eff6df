use Rattle.cx_look_cover.proofs.TallyLemmas.{programs_are_reached as law}
use Rattle.cx_look_cover.proofs.laws.programs_are_reached.Goals as goal

pub returns : goal.returns
returns c = law
