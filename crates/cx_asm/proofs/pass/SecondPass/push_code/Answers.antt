use Rattle.std.proofs.Common.{arith}
use Rattle.cx_asm.proofs.FitLemmas.{code_fits}
use Rattle.cx_asm.proofs.pass.SecondPass.push_code.Goals as goal

pub overflow_cast-at : goal.overflow_cast-at
overflow_cast-at c = omega (arith, code_fits 0 c.args.standing.now.lines c.args.at c.args.inst 65536 (c.requires c.if-not-self.false).lines)
