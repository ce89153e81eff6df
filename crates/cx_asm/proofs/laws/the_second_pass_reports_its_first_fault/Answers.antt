use Rattle.cx_asm.proofs.FirstLemmas.{second_is_first}
use Rattle.cx_asm.proofs.laws.the_second_pass_reports_its_first_fault.Goals as goal

pub returns : goal.returns
returns c = second_is_first
