use Rattle.std.proofs.Common.{◌≡◌, take}
use Rattle.cx_base.proofs.replica_tables.replica_of_table.Given as goal

-- those so far
abbrev pub invariant-loop-i : goal.invariant-loop-i
invariant-loop-i g l = l.copy.entries ≡ take l.i l.table.entries
