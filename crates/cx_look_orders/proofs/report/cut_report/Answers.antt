use Rattle.std.proofs.Common.{◌∙◌, ◌++◌, ap}
use Rattle.cx_look_orders.specs.Report.{cut_line, outcomes_lines}
use Rattle.cx_look_orders.proofs.ListLemmas.{two_added}
use Rattle.cx_look_orders.proofs.report.cut_report.Goals as goal

pub returns : goal.returns
returns g c =
    two_added c.new-report.result c.cut_line.new.report c.outcomes_lines.new.report (cut_line c.args.orders.now.keys c.args.most c.args.moves)
    (outcomes_lines c.args.region.now c.args.orders.now.keys.lines c.args.edf.now 1 c.args.outcomes.now)
    c.new-report.ensures c.in_ok-cut_line.ensures
    (c.in_ok-outcomes_lines.ensures
    ∙ ap (λ keys. c.cut_line.new.report ++ outcomes_lines c.args.region.now keys c.args.edf.now 1 c.args.outcomes.now)
    c.as_slice-keys.ensures)
