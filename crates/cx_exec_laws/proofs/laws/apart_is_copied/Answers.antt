use Rattle.cx_exec_laws.proofs.StringLaws.{apart_is_copied}
use Rattle.cx_exec_laws.proofs.laws.apart_is_copied.Goals as goal

pub returns : goal.returns
returns c = apart_is_copied c.outside_is_before.ensures.moved
