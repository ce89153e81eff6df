use Rattle.cx_asm_expressions.proofs.WeighLemmas.{decides}
use Rattle.cx_asm_expressions.proofs.laws.weighing_decides.Goals as goal

pub returns : goal.returns
returns c = decides
