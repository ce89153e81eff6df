use Rattle.std.proofs.Common.{◌≡◌, ◌++◌, drop}
use Rattle.cx_look_faults.specs.Commands.{phrases}
use Rattle.cx_look_faults.proofs.commands.phrases.Given as goal

abbrev pub invariant-loop-i : goal.invariant-loop-i
invariant-loop-i l = l.phrases.items ++ phrases l.operand (drop l.i l.words) ≡ phrases l.operand l.words
