use Rattle.std.proofs.Common.{◌+◌, arith, rules}
use Rattle.cx_exec.proofs.RegisterLemmas.{written_more}
use Rattle.cx_exec.proofs.registers.write_registers.Goals as goal

pub high-preserved : goal.high-preserved
high-preserved c = written_more _ c.args.first (c.args.first + c.high.k) _ _ _ _ _ (omega arith) (search rules) c.high.invariant c.write_u32.ensures

pub low-preserved : goal.low-preserved
low-preserved c = written_more _ c.args.first _ _ _ _ _ _ (omega arith) (search rules) c.low.invariant c.write_u32-in-low.ensures
