use Rattle.std.proofs.Common.{◌≡◌, take}
use Rattle.cx_program.proofs.snapshots.put_levels.Given as goal

-- those so far
abbrev pub invariant-loop-snapshot : goal.invariant-loop-snapshot
invariant-loop-snapshot l = l.levels.items ≡ take l.snapshot-index l.snapshots
