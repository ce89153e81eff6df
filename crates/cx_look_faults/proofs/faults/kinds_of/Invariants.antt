use Rattle.std.proofs.Common.{◌≡◌, [], drop}
use Rattle.std.specs.Prelude.{fold}
use Rattle.cx_look_faults.specs.Faults.{put_line}
use Rattle.cx_look_faults.proofs.faults.kinds_of.Given as goal

abbrev pub invariant-loop-fault : goal.invariant-loop-fault
invariant-loop-fault l =
    fold put_line l.sorted.entries (drop l.fault-index l.lines) ≡ fold put_line [] l.lines
