-- The fields of the head.
use Rattle.cx_asm_execution.proofs.HeadLemmas.{head_laid_out}
use Rattle.cx_asm_execution.proofs.laws.the_head_is_laid_out.Goals as goal

pub returns : goal.returns
returns c = head_laid_out
