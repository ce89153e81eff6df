use Rattle.cx_asm.proofs.MadeLemmas.{item_fits}
use Rattle.cx_asm.proofs.laws.a_constant_has_its_length.Goals as goal

pub returns-clause-at_length : goal.returns-clause-at_length
returns-clause-at_length c whole counter text item made e h = (item_fits whole counter text item made e h).short

pub returns-clause-word : goal.returns-clause-word
returns-clause-word c whole counter text item made e h = (item_fits whole counter text item made e h).word
