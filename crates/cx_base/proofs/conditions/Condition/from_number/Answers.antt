use Rattle.cx_base.proofs.CommandTableLemmas.{found_by_condition_number}
use Rattle.cx_base.proofs.conditions.Condition.from_number.Goals as goal

pub returns : goal.returns
returns c = rw c.numbered.ensures (found_by_condition_number c.args.number)
