use Rattle.std.proofs.Common.{arith}
use Rattle.cx_storage_pages.proofs.FrameLemmas.{runs_skip}
use Rattle.cx_storage_pages.proofs.frame.Frame.tail.Goals as goal

pub returns-in-Some : goal.returns-in-Some
returns-in-Some c =
    let known = rw c.in-Some.is at c.args.self.now.summed in
    runs_skip c.args.self.now c.args.need c.in-Some.runs.longest c.in-Some.runs.tail (omega arith) known (omega arith)
