use Rattle.cx_source.proofs.ReaderLemmas.{not_before_the_end}
use Rattle.cx_source.proofs.laws.no_end_is_met_at_the_end.Goals as goal

pub returns : goal.returns
returns c = not_before_the_end
