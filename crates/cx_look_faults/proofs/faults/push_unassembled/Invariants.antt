use Rattle.std.proofs.Common.{◌≡◌, ◌++◌, drop}
use Rattle.cx_look_faults.specs.Faults.{faulty_lines, of_pass}
use Rattle.cx_look_faults.proofs.faults.push_unassembled.Given as goal

abbrev pub invariant-loop-fault : goal.invariant-loop-fault
invariant-loop-fault l = l.lines.items ++ faulty_lines of_pass (drop l.fault-index l.faults) ≡ l.initial.lines.items ++ faulty_lines of_pass l.faults
