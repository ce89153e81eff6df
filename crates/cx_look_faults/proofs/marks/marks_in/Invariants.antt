use Rattle.std.proofs.Common.{◌≡◌, ◌++◌, drop, map}
use Rattle.cx_look_faults.specs.Marks.{mark_of}
use Rattle.cx_look_faults.proofs.marks.marks_in.Given as goal

abbrev pub invariant-loop-fault : goal.invariant-loop-fault
invariant-loop-fault l =
    l.marks.items ++ map (mark_of l.lines l.items l.parts) (drop l.fault-index l.faults) ≡ map (mark_of l.lines l.items l.parts) l.faults
