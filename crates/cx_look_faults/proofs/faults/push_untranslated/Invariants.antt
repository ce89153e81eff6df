use Rattle.std.proofs.Common.{◌≡◌, ◌++◌, drop}
use Rattle.cx_asm_build.specs.Kinds.{of_translation}
use Rattle.cx_look_faults.specs.Faults.{faulty_lines}
use Rattle.cx_look_faults.proofs.faults.push_untranslated.Given as goal

abbrev pub invariant-loop-fault : goal.invariant-loop-fault
invariant-loop-fault l = l.lines.items ++ faulty_lines of_translation (drop l.fault-index l.faults) ≡ l.initial.lines.items ++ faulty_lines of_translation l.faults
