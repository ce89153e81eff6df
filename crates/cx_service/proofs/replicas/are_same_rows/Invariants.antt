use Rattle.std.proofs.Common.{◌≡◌, take}
use Rattle.cx_service.proofs.replicas.are_same_rows.Given as goal

-- those so far are the same
abbrev pub invariant-loop-i : goal.invariant-loop-i
invariant-loop-i l = take l.i l.ones ≡ take l.i l.others
