use Rattle.cx_asm_operands.proofs.FormLemmas.{resolved_is_well_formed}
use Rattle.cx_asm_operands.proofs.laws.what_is_resolved_is_well_formed.Goals as goal

pub returns : goal.returns
returns c = resolved_is_well_formed
