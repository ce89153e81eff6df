use Rattle.cx_look_cover.proofs.PassageLemmas.{passages_are_visits as law}
use Rattle.cx_look_cover.proofs.laws.passages_are_visits.Goals as goal

pub returns : goal.returns
returns c = law c.steps_decide.ensures
