-- The nearest exit of the levels so far.
use Rattle.std.proofs.Common.{take}
use Rattle.cx_program.specs.Levels.{IsNearestExit}
use Rattle.cx_program.proofs.stack.last_exit.Given as goal

abbrev pub invariant-loop-i : goal.invariant-loop-i
invariant-loop-i l = IsNearestExit (take l.i l.levels) l.last
