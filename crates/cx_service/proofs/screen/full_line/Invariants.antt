use Rattle.std.proofs.Common.{◌≡◌, ◌-◌, ◌++◌, take, replicate}
use Rattle.cx_service.proofs.screen.full_line.Given as goal

abbrev pub invariant-loop-i : goal.invariant-loop-i
invariant-loop-i l = l.filled ≡ take l.i l.line ++ replicate (80 - l.i) 64
