use Rattle.cx_asm_laws.proofs.ReadLemmas.{bytes_read, instructions_read, lines_are_statements, space_read}
use Rattle.cx_asm_laws.proofs.laws.disassembled_lines_are_read_back.Goals as goal

pub returns-clause-lines : goal.returns-clause-lines
returns-clause-lines c = lines_are_statements

pub returns-clause-instructions : goal.returns-clause-instructions
returns-clause-instructions c = instructions_read c.one_name.ensures.machine

pub returns-clause-bytes : goal.returns-clause-bytes
returns-clause-bytes c = bytes_read

pub returns-clause-spaces : goal.returns-clause-spaces
returns-clause-spaces c = space_read
