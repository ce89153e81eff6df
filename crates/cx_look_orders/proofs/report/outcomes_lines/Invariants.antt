use Rattle.std.proofs.Common.{◌≡◌, ◌+◌, ◌++◌, drop}
use Rattle.cx_look_orders.specs.Report.{outcomes_lines}
use Rattle.cx_look_orders.proofs.report.outcomes_lines.Given as goal

abbrev pub invariant-loop-i : goal.invariant-loop-i
invariant-loop-i g l =
    l.report ++ outcomes_lines l.region l.keys l.edf (l.i + 1) (drop l.i l.outcomes)
    ≡ l.initial.report ++ outcomes_lines l.region l.keys l.edf 1 l.outcomes
