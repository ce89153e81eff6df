use Rattle.cx_asm_image.proofs.LawLemmas.{text_decides}
use Rattle.cx_asm_image.proofs.TextLemmas.{is_text}
use Rattle.cx_asm_image.proofs.laws.the_text_is_decided_by_its_bytes.Goals as goal

pub returns-clause-is : goal.returns-clause-is
returns-clause-is c = is_text

pub returns-clause-decides : goal.returns-clause-decides
returns-clause-decides c = text_decides
