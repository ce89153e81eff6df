use Rattle.cx_region_laws.proofs.CalenLemmas.{exits_find_reports}
use Rattle.cx_region_laws.proofs.ReportLemmas.{commands_report}
use Rattle.cx_region_laws.proofs.laws.a_command_reports_itself.Goals as goal

pub returns-clause-performed : goal.returns-clause-performed
returns-clause-performed c = commands_report c.call_is_read.ensures c.half_turns_keep.ensures

pub returns-clause-exits : goal.returns-clause-exits
returns-clause-exits c = exits_find_reports c.call_is_read.ensures c.half_turns_keep.ensures
