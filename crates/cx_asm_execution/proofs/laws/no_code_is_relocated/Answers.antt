use Rattle.cx_asm_execution.proofs.RaisedLemmas.{no_code_raised}
use Rattle.cx_asm_execution.proofs.StandingLemmas.{texts_are_made}
use Rattle.cx_asm_execution.proofs.laws.no_code_is_relocated.Goals as goal

pub returns : goal.returns
returns c = let apart = c.an_assembly_stands_apart.ensures in no_code_raised (texts_are_made apart.within_section apart.size apart.lines)
