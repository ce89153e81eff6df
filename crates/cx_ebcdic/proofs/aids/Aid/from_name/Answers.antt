use Rattle.cx_ebcdic.proofs.AidLemmas.{found_by_name}
use Rattle.cx_ebcdic.proofs.aids.Aid.from_name.Goals as goal

pub returns : goal.returns
returns c = rw c.named.ensures (found_by_name c.args.name.now)
