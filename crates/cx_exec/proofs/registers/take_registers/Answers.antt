use Rattle.std.proofs.Common.{arith}
use Rattle.cx_exec.proofs.RegisterLemmas.{one_taken, taken_registers}
use Rattle.cx_exec.proofs.registers.take_registers.Goals as goal

pub high-preserved : goal.high-preserved
high-preserved c = one_taken _ _ _ _ _ _ _ c.args.range.low1 (omega arith) (omega arith) c.high.invariant (omega (arith, c.requires.size, c.high-test.true)) c.read_u32.ensures

pub low-preserved : goal.low-preserved
low-preserved c = one_taken _ _ _ _ _ _ _ c.args.range.low1 (omega arith) (omega arith) c.low.invariant (omega (arith, c.requires.size, c.low-test.true)) c.read_u32-in-low.ensures

pub returns : goal.returns
returns c words each = taken_registers _ _ _ _ c.args.part.now words c.low.invariant.size
    (λ r low h. c.low.invariant.taken r low (omega (arith, h, c.requires.size, c.low-test.false)))
    (λ r low h. c.low.invariant.others r low (omega (arith, h, c.requires.size, c.low.auto.k-end)))
    each
