use Rattle.std.proofs.Common.{◌≡◌, take}
use Rattle.cx_program.proofs.snapshots.put_kept.Given as goal

-- those so far
abbrev pub invariant-loop-handling : goal.invariant-loop-handling
invariant-loop-handling l = l.kept.items ≡ take l.handling-index l.handlings
