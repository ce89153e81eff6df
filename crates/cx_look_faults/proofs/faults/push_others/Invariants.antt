use Rattle.std.proofs.Common.{◌≡◌, ◌++◌, drop}
use Rattle.cx_look_faults.specs.Faults.{kind_at, without_following}
use Rattle.cx_look_faults.proofs.faults.push_others.Given as goal

abbrev pub invariant-loop-fault : goal.invariant-loop-fault
invariant-loop-fault l =
    l.lines.items ++ without_following l.bases.has_section l.bases.lines.items (kind_at l.beside.entries) l.from (drop l.fault-index l.later)
    ≡ l.initial.lines.items ++ without_following l.bases.has_section l.bases.lines.items (kind_at l.beside.entries) l.initial.from l.later
