use Rattle.cx_asm_pass1.specs.Facts.Apart.{apart_after}
use Rattle.cx_asm_pass1.proofs.laws.statements_stand_apart.Goals as goal

pub returns : goal.returns
returns c = apart_after
