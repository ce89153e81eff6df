-- The fields of the block.
use Rattle.cx_asm_execution.proofs.BlockLemmas.{eib_laid_out}
use Rattle.cx_asm_execution.proofs.laws.the_eib_is_laid_out.Goals as goal

pub returns : goal.returns
returns c = eib_laid_out
