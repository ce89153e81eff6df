use Rattle.cx_asm_image.proofs.TextLemmas.{come_back}
use Rattle.cx_asm_image.proofs.laws.lines_come_back.Goals as goal

pub returns : goal.returns
returns c = come_back c.every_spelling.ensures.spells c.canonical_is.ensures
