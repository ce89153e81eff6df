use Rattle.cx_asm_pass1.specs.Facts.Apart.{pool_of_lines}
use Rattle.cx_asm_pass1.proofs.laws.the_open_pool_is_one.Goals as goal

pub returns : goal.returns
returns c = pool_of_lines
