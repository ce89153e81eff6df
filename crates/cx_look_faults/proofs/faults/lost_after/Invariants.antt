use Rattle.std.proofs.Common.{◌≡◌, drop}
use Rattle.std.specs.Prelude.{fold}
use Rattle.cx_look_faults.specs.Faults.{lost_from}
use Rattle.cx_look_faults.proofs.faults.lost_after.Given as goal

abbrev pub invariant-loop-fault : goal.invariant-loop-fault
invariant-loop-fault l =
    fold (lost_from l.bases.has_section l.bases.lines.items) l.from (drop l.fault-index l.lines)
    ≡ fold (lost_from l.bases.has_section l.bases.lines.items) l.initial.from l.lines
