use Rattle.cx_code.proofs.LawLemmas.{spelled_reads}
use Rattle.cx_code.proofs.laws.spelled_reads.Goals as goal

pub returns : goal.returns
returns c = spelled_reads
