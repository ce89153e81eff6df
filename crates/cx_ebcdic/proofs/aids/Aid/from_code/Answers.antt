use Rattle.cx_ebcdic.proofs.AidLemmas.{found_by_code}
use Rattle.cx_ebcdic.proofs.aids.Aid.from_code.Goals as goal

pub returns : goal.returns
returns c = rw c.coded.ensures (found_by_code c.args.code)
