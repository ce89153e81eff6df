use Rattle.std.proofs.Common.{sym, ◌∙◌, ap}
use Rattle.cx_region.proofs.AlterLemmas.{altered_on}
use Rattle.cx_region.proofs.TurnLemmas.{terminal_with}
use Rattle.cx_region.proofs.alter.alter_terminal.Goals as goal

pub returns : goal.returns
returns g c =
    altered_on _ _ _ _ c.terminal.inside.entry c.alter_task.new.terminal_entry c.in-Some.task c.alter_task.new.task _ _
    (ap (terminal_with c.terminal.inside.entry) (sym c.in-Some.is) ∙ c.terminal.view_is) c.alter_task.ensures c.ends_task.ensures c.drop_if.ensures
