use Rattle.cx_storage_pages.specs.Parts.Runs.{IsRunsTo}
use Rattle.cx_storage_pages.proofs.frame.summed.Given as goal

-- the runs of the granules from the first on
abbrev pub invariant-loop-k : goal.invariant-loop-k
invariant-loop-k l = IsRunsTo l.counts l.k l.longest l.run
