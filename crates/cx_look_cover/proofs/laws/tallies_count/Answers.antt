use Rattle.cx_look_cover.proofs.TallyLemmas.{tallies_count as law}
use Rattle.cx_look_cover.proofs.laws.tallies_count.Goals as goal

pub returns : goal.returns
returns c = law c.passages_decide.ensures
