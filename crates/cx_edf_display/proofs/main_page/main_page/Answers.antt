use Rattle.cx_edf_display.proofs.LineLemmas.{page_made}
use Rattle.cx_edf_display.proofs.main_page.main_page.Goals as goal

pub returns : goal.returns
returns g c =
    page_made _ _ _ _ _ _ _ _ _ _ _ c.stop_status.ensures c.blank-page.ensures c.put_heading.ensures c.put_line.ensures c.put_task.ensures c.put_outcome.ensures c.put_line-2.ensures
