use Rattle.cx_asm_image.proofs.LawLemmas.{kinds_needed}
use Rattle.cx_asm_image.proofs.laws.kinds_are_needed.Goals as goal

pub returns : goal.returns
returns c = kinds_needed
