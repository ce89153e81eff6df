use Rattle.cx_asm_pass1.specs.Facts.Apart.{statement_stands, statement_within}
use Rattle.cx_asm_pass1.proofs.laws.a_statement_stands_after_its_section.Goals as goal

pub returns-clause-stands : goal.returns-clause-stands
returns-clause-stands c = statement_stands

pub returns-clause-within : goal.returns-clause-within
returns-clause-within c = statement_within
