use Rattle.std.proofs.Common.{arith}
use Rattle.cx_storage_pages.proofs.ReachLemmas.{cut_short}
use Rattle.cx_storage_pages.proofs.frame.cut.Goals as goal

pub returns-then-counts-g-lt16 : goal.returns-then-counts-g-lt16
returns-then-counts-g-lt16 c = cut_short c.args.counts.now c.args.g c.requires.reached (omega arith) (omega (arith, c.if-counts-g-lt16.true))
