use Rattle.std.proofs.Common.{◌≡◌, arith}
use Rattle.cx_storage_pages.proofs.frame.fill.Goals as goal

pub returns : goal.returns
returns c = λ h. let done : c.loop-g.g ≡ c.args.to = omega (arith, c.loop-g-test.false, c.loop-g.auto.g-end) in rw done at (c.loop-g.invariant.1 h)
