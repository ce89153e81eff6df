-- How many instructions are made.
use Rattle.cx_asm_execution.proofs.ArrivalMadeLemmas.{counted, measured}
use Rattle.cx_asm_execution.proofs.laws.made_are_counted.Goals as goal

pub returns : goal.returns
returns c s = (counted s, measured s)
