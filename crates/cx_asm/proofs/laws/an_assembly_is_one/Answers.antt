use Rattle.cx_asm.proofs.AnswerLemmas.{one_answer}
use Rattle.cx_asm.proofs.laws.an_assembly_is_one.Goals as goal

pub returns : goal.returns
returns c = one_answer
