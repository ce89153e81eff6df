use Rattle.cx_exec_laws.proofs.StringLaws.{decimal_reads_back}
use Rattle.cx_exec_laws.proofs.laws.decimal_reads_back.Goals as goal

pub returns : goal.returns
returns c = decimal_reads_back
