use Rattle.std.proofs.Common.{◌≡◌, take}
use Rattle.cx_base.proofs.replica_lists.are_same_items.Given as goal

-- those so far are equal
abbrev pub invariant-loop-i : goal.invariant-loop-i
invariant-loop-i g l = take l.i l.ones ≡ take l.i l.others
