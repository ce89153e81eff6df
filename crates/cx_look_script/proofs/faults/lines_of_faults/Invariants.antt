use Rattle.std.proofs.Common.{◌≡◌, ◌++◌, take}
use Rattle.std.specs.List.{flat_map}
use Rattle.cx_look_script.specs.Faults.{mark_line}
use Rattle.cx_look_script.proofs.faults.lines_of_faults.Given as goal

abbrev pub invariant-loop-mark : goal.invariant-loop-mark
invariant-loop-mark l = l.report ≡ l.initial.report ++ flat_map (mark_line l.source) (take l.mark-index l.marks)
