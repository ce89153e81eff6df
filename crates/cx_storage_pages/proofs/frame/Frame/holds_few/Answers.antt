use Rattle.std.proofs.Common.{arith}
use Rattle.std.proofs.lemmas.Bool.{leb-true}
use Rattle.cx_storage_pages.proofs.ReachLemmas.{near_fits, near_all}
use Rattle.cx_storage_pages.proofs.frame.Frame.holds_few.Goals as goal

pub returns-then-n-le16-clause-fits : goal.returns-then-n-le16-clause-fits
returns-then-n-le16-clause-fits c = λ counted. near_fits c.args.self.now c.args.from c.args.n (omega arith) (omega arith) (leb-true _ _ counted)

pub returns-then-n-le16-clause-all : goal.returns-then-n-le16-clause-all
returns-then-n-le16-clause-all c = λ counted. near_all c.args.self.now c.args.from c.args.n (omega arith, omega arith) (omega arith) (leb-true _ _ counted)
