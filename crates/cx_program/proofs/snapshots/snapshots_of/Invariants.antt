use Rattle.std.proofs.Common.{◌≡◌, take}
use Rattle.cx_program.proofs.snapshots.snapshots_of.Given as goal

-- those so far
abbrev pub invariant-loop-level : goal.invariant-loop-level
invariant-loop-level l = l.snapshots.items ≡ take l.level-index l.levels
