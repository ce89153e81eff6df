use Rattle.std.proofs.Common.{◌≡◌, ◌-◌, ◌++◌, take, replicate}
use Rattle.cx_region.proofs.attach.pad.Given as goal

-- the bytes copied so far, then blanks
abbrev pub invariant-loop-i : goal.invariant-loop-i
invariant-loop-i l = l.filled ≡ take l.i l.word ++ replicate (4 - l.i) 0x40
