use Rattle.std.proofs.Common.{arith}
use Rattle.cx_asm.proofs.FitLemmas.{space_fits}
use Rattle.cx_asm.proofs.pass.SecondPass.push_space.Goals as goal

pub overflow_cast-at : goal.overflow_cast-at
overflow_cast-at c = omega (arith, space_fits 0 c.args.standing.now.lines c.args.at c.args.size 65536 c.if-size-eq0.false (c.requires c.if-not-self.false).lines)

pub overflow_cast-size : goal.overflow_cast-size
overflow_cast-size c = omega (arith, space_fits 0 c.args.standing.now.lines c.args.at c.args.size 65536 c.if-size-eq0.false (c.requires c.if-not-self.false).lines)
