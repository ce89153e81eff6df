use Rattle.std.proofs.Common.{◌≡◌, ◌++◌, drop}
use Rattle.cx_asm_build.specs.Kinds.{of_source}
use Rattle.cx_look_faults.specs.Faults.{faulty_lines}
use Rattle.cx_look_faults.proofs.faults.push_unread.Given as goal

abbrev pub invariant-loop-fault : goal.invariant-loop-fault
invariant-loop-fault l = l.lines.items ++ faulty_lines of_source (drop l.fault-index l.faults) ≡ l.initial.lines.items ++ faulty_lines of_source l.faults
