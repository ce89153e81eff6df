use Rattle.cx_look_ahead.proofs.NameLemmas.{names_are_of_where}
use Rattle.cx_look_ahead.proofs.laws.rows_are_named_as_where.Goals as goal

pub returns : goal.returns
returns c = names_are_of_where
