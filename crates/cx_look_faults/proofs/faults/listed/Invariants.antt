use Rattle.std.proofs.Common.{◌≡◌, ◌++◌, map}
use Rattle.cx_look_faults.specs.Faults.{faulty}
use Rattle.cx_look_faults.proofs.faults.listed.Given as goal

abbrev pub invariant-loop-line : goal.invariant-loop-line
invariant-loop-line l = l.lines.items ++ map (λ entry. faulty entry.0 entry.1) l.line-iterator ≡ map (λ entry. faulty entry.0 entry.1) l.sorted.entries
