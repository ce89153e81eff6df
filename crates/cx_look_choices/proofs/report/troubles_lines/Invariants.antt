use Rattle.std.proofs.Common.{◌≡◌, ◌+◌, ◌++◌, drop}
use Rattle.cx_look_choices.specs.Report.{troubles_lines}
use Rattle.cx_look_choices.proofs.report.troubles_lines.Given as goal

abbrev pub invariant-loop-place : goal.invariant-loop-place
invariant-loop-place g l =
    l.report ++ troubles_lines l.region (l.place + 1) (drop l.place l.rows) ≡ l.initial.report ++ troubles_lines l.region 1 l.rows
