use Rattle.std.proofs.Common.{arith}
use Rattle.cx_exec.proofs.RegisterLemmas.{all_loaded}
use Rattle.cx_exec.proofs.registers.load_registers.Goals as goal

pub returns : goal.returns
returns c = all_loaded _ _ _ _ _ c.loop-r.invariant.size (λ k h. c.loop-r.invariant.before k (omega arith))
