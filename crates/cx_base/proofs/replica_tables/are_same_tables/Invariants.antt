use Rattle.std.proofs.Common.{◌≡◌, take}
use Rattle.cx_base.proofs.replica_tables.are_same_tables.Given as goal

-- those so far are equal
abbrev pub invariant-loop-i : goal.invariant-loop-i
invariant-loop-i g l = take l.i l.ones.entries ≡ take l.i l.others.entries
