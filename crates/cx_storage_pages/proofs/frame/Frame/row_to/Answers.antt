use Rattle.std.proofs.Common.{arith}
use Rattle.cx_storage_pages.proofs.ReachLemmas.{row_taken, row_within}
use Rattle.cx_storage_pages.proofs.frame.Frame.row_to.Goals as goal

pub returns-clause-taken : goal.returns-clause-taken
returns-clause-taken c = λ j low high. row_taken c.args.self.now c.args.g j (omega arith, omega arith) c.requires.taken low (omega (arith, high))

pub returns-clause-within : goal.returns-clause-within
returns-clause-within c = let fits = row_within c.args.self.now c.args.g (omega arith) (omega arith) in omega (arith, fits)
