use Rattle.std.proofs.Common.{◌≡◌, take}
use Rattle.cx_region_snapshot.proofs.snapshot.terminals_of.Given as goal

-- those so far
abbrev pub invariant-loop-i : goal.invariant-loop-i
invariant-loop-i l = l.terminals.entries ≡ take l.i l.snapshots
