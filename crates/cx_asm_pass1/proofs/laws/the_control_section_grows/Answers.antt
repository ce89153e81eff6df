use Rattle.cx_asm_pass1.specs.Facts.Apart.{control_ends, control_grows, in_control}
use Rattle.cx_asm_pass1.proofs.laws.the_control_section_grows.Goals as goal

pub returns-clause-grows : goal.returns-clause-grows
returns-clause-grows c = control_grows

pub returns-clause-ends : goal.returns-clause-ends
returns-clause-ends c = control_ends

pub returns-clause-own : goal.returns-clause-own
returns-clause-own c = in_control
