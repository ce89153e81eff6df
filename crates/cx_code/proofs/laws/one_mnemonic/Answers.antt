use Rattle.cx_code.proofs.LawLemmas.{one_mnemonic}
use Rattle.cx_code.proofs.laws.one_mnemonic.Goals as goal

pub returns : goal.returns
returns c = one_mnemonic
