use Rattle.cx_asm_pass1.specs.Facts.Apart.{closing_apart, end_within_control}
use Rattle.cx_asm_pass1.proofs.laws.the_last_pool_ends_the_control_section.Goals as goal

pub returns-clause-inside : goal.returns-clause-inside
returns-clause-inside c = end_within_control

pub returns-clause-last : goal.returns-clause-last
returns-clause-last c = closing_apart
