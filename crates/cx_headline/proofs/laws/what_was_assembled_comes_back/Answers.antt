use Rattle.cx_headline.proofs.SourceLemmas.{blocks_come_back}
use Rattle.cx_headline.proofs.laws.what_was_assembled_comes_back.Goals as goal

pub returns-clause-scripts : goal.returns-clause-scripts
returns-clause-scripts c = blocks_come_back c.what_was_assembled_comes_back.ensures.back
