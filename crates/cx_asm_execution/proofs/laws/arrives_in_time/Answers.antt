-- A run of as many steps as there are instructions.
use Rattle.cx_asm_execution.proofs.TimeLemmas.{in_time}
use Rattle.cx_asm_execution.proofs.laws.arrives_in_time.Goals as goal

pub returns : goal.returns
returns c = in_time
