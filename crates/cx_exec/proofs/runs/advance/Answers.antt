use Rattle.std.proofs.Common.{arith}
use Rattle.cx_exec.proofs.RunLemmas.{passes_start}
use Rattle.cx_exec.proofs.runs.advance.Goals as goal

pub loop-left-init : goal.loop-left-init
loop-left-init g c = (omega arith, passes_start c.args.limit _)
