use Rattle.std.proofs.Common.{◌≡◌, ◌+◌, ◌≤◌, ◌++◌, drop}
use Rattle.cx_look_choices.specs.Report.{rows_lines}
use Rattle.cx_look_choices.proofs.report.rows_lines.Given as goal

abbrev pub invariant-loop-place : goal.invariant-loop-place
invariant-loop-place g l =
    let of = rows_lines l.written.region.now l.written.choices.now.choices.items l.written.edf.now l.written.rows.now.texts.items in
    (l.report ++ of (l.place + 1) l.came (drop l.place l.written.rows.now.rows.items)
    ≡ l.initial.report ++ of 1 0 l.written.rows.now.rows.items) × (l.came ≤ l.place)
