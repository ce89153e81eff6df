-- Two machines that have arrived were reached by one run.
use Rattle.cx_exec.specs.declared.machine.Halt.TheVariants as halt
use Rattle.std.proofs.Common.{length}
use Rattle.cx_asm_execution.specs.Expansion.{instructions_made}
use Rattle.cx_asm_execution.proofs.TimeLemmas.{in_due_time}
use Rattle.cx_asm_execution.proofs.laws.arrivals_decide.Goals as goal

pub returns : goal.returns
returns c m s a b first second =
    (c.runs_decide.ensures (length (instructions_made s)) m halt.AtEntry halt.AtEntry a b (in_due_time m s a first) (in_due_time m s b second)).1
