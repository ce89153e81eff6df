use Rattle.std.proofs.Common.{◌≡◌, ◌++◌, None, drop, false}
use Rattle.cx_look_faults.specs.Faults.{without_adrift}
use Rattle.cx_look_faults.proofs.sections.push_unadrift.Given as goal

abbrev pub invariant-loop-fault : goal.invariant-loop-fault
invariant-loop-fault l =
    l.lines.items ++ without_adrift l.items l.met l.unknown (drop l.fault-index l.more) ≡ l.initial.lines.items ++ without_adrift l.items false None l.more
