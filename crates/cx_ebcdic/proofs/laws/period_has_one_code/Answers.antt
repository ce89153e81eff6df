use Rattle.cx_ebcdic.proofs.TableLemmas.{period_code}
use Rattle.cx_ebcdic.proofs.laws.period_has_one_code.Goals as goal

pub returns : goal.returns
returns c = period_code
