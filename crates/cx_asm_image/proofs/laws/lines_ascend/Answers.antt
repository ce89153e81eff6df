use Rattle.cx_asm_image.proofs.LawLemmas.{ascend}
use Rattle.cx_asm_image.specs.Facts.Apart.{fits_at}
use Rattle.cx_asm_image.proofs.laws.lines_ascend.Goals as goal

pub returns-clause-ascend : goal.returns-clause-ascend
returns-clause-ascend c = ascend 0

pub returns-clause-within : goal.returns-clause-within
returns-clause-within c = fits_at 0
