use Rattle.std.proofs.Common.{sym, ◌∙◌, ap}
use Rattle.cx_region.proofs.TurnLemmas.{recorded_on, terminal_with, turned_on}
use Rattle.cx_region.proofs.turn.turn_terminal.Goals as goal

pub returns-clause-turned : goal.returns-clause-turned
returns-clause-turned g c =
    turned_on _ _ _ c.terminal.inside.entry c.half_turn.new.terminal_entry c.in-Some.task c.half_turn.new.task _ _ _
    (ap (terminal_with c.terminal.inside.entry) (sym c.in-Some.is) ∙ c.terminal.view_is) c.in_ok-reply.ensures.turned c.drop_over.ensures

pub returns-clause-abend_record : goal.returns-clause-abend_record
returns-clause-abend_record g c =
    recorded_on _ _ _ c.terminal.inside.entry c.half_turn.new.terminal_entry c.in-Some.task c.half_turn.new.task _ _
    (ap (terminal_with c.terminal.inside.entry) (sym c.in-Some.is) ∙ c.terminal.view_is) c.in_ok-reply.ensures.turned
