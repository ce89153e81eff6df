use Rattle.cx_headline.proofs.OrdersLemmas.{are_true, lines_lead}
use Rattle.cx_headline.specs.Laws.Orders.{Seen}
use Rattle.cx_look_script.specs.Orders.{keys_asked, names_with_edf}
use Rattle.cx_look_script.specs.Telling.{turn_told}
use Rattle.cx_headline.proofs.laws.no_order_is_missed.Goals as goal

pub returns-clause-missed : goal.returns-clause-missed
returns-clause-missed g c = λ seen keys region edf most lines.
    are_true c.off_is_the_region.ensures.exists c.steps_are_runs.ensures c.scripts_ask_for_steps.ensures
    c.one_list_is_sooner.ensures c.loops_are_endless.ensures (g.V.Seen.shows seen) (g.V.Seen.tells seen) keys region edf most lines

pub returns-clause-blocks : goal.returns-clause-blocks
returns-clause-blocks g c = λ block state text is.
    are_true c.off_is_the_region.ensures.exists c.steps_are_runs.ensures c.scripts_ask_for_steps.ensures
    c.one_list_is_sooner.ensures c.loops_are_endless.ensures (Seen block state) (turn_told state.sources) (keys_asked block) state.edf.region (names_with_edf state.edf) block.most is.lines

pub returns-clause-led : goal.returns-clause-led
returns-clause-led g c = lines_lead c.scripts_lead_there.ensures c.scripts_name_their_terminals.ensures c.keys_are_asked_by_their_lines.ensures.orders

pub returns-clause-reported : goal.returns-clause-reported
returns-clause-reported g c = c.orders_are_reported_once.ensures
