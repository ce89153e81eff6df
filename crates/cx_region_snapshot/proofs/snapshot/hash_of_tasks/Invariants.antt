use Rattle.std.proofs.Common.{◌≡◌, take, fold}
use Rattle.cx_region_snapshot.specs.Hash.{hash_with_task}
use Rattle.cx_region_snapshot.proofs.snapshot.hash_of_tasks.Given as goal

-- the hash of those so far
abbrev pub invariant-loop-terminal : goal.invariant-loop-terminal
invariant-loop-terminal l = l.hash ≡ fold (λ hash entry. hash_with_task hash entry.1.task) l.before (take l.terminal-index l.terminals)
