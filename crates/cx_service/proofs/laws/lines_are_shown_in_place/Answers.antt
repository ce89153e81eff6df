use Rattle.cx_service.proofs.LawLemmas.{in_place}
use Rattle.cx_service.proofs.laws.lines_are_shown_in_place.Goals as goal

pub returns : goal.returns
returns c = in_place
