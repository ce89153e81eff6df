use Rattle.cx_source.proofs.ReaderLemmas.{one_item_a_line}
use Rattle.cx_source.proofs.laws.one_item_for_each_line.Goals as goal

pub returns : goal.returns
returns c = one_item_a_line
