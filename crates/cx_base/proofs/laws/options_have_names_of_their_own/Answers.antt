use Rattle.cx_base.proofs.RowLemmas.{own_names}
use Rattle.cx_base.proofs.laws.options_have_names_of_their_own.Goals as goal

pub returns : goal.returns
returns c = own_names
