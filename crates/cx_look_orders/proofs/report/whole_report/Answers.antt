use Rattle.std.proofs.Common.{◌∙◌, ◌++◌, ap, length}
use Rattle.cx_look_orders.specs.Report.{loop_lines, outcomes_lines, stuck_line, whole_line}
use Rattle.cx_look_orders.proofs.ListLemmas.{four_added}
use Rattle.cx_look_orders.proofs.report.whole_report.Goals as goal

pub returns : goal.returns
returns g c =
    let keys = c.as_slice-keys.result.now in
    let outcomes = c.as_slice-outcomes.result.now in
    let added = four_added c.new-report.result c.whole_line.new.report c.outcomes_lines.new.report c.loop_lines.new.report
    c.stuck_line.new.report (whole_line c.args.orders.now.keys c.args.whole.now.states (length outcomes))
    (outcomes_lines c.args.region.now keys c.args.edf.now 1 outcomes)
    (loop_lines c.args.region.now keys c.args.edf.now c.args.whole.now.looping) (stuck_line c.args.whole.now.is_stuck)
    c.new-report.ensures c.in_ok-whole_line.ensures c.in_ok-outcomes_lines.ensures
    (c.in_ok-loop_lines.ensures ∙ ap (λ steps. c.outcomes_lines.new.report ++ loop_lines c.args.region.now keys c.args.edf.now steps) c.as_ref.ensures.value)
    c.in_ok-stuck_line.ensures in
    cc
