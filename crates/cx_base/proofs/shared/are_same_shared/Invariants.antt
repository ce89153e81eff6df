use Rattle.std.proofs.Common.{◌≡◌, take}
use Rattle.cx_base.specs.Shared.{values}
use Rattle.cx_base.proofs.shared.are_same_shared.Given as goal

-- those so far are equal
abbrev pub invariant-loop-i : goal.invariant-loop-i
invariant-loop-i g l = take l.i (values l.ones) ≡ take l.i (values l.others)
