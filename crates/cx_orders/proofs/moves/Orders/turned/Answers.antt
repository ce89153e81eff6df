use Rattle.std.proofs.Common.{◌∙◌, ap}
use Rattle.cx_orders.specs.Incidents.{with_incident}
use Rattle.cx_orders.proofs.MoveLemmas.{turned_by}
use Rattle.cx_orders.proofs.moves.Orders.turned.Goals as goal

pub returns : goal.returns
returns g c =
    turned_by c.waits_are_reported.ensures c.half_turns_stay.ensures c.args.from.now c.args.asked.now c.requires.asked c.requires.acts c.args.region.now
    c.turn.new.self c.in_ok-reply.reply _ c.requires.given c.in_ok-reply.ensures.turned c.in_ok-to.ensures.region
    (c.in_ok-to.ensures.come ∙ c.in_ok-come.ensures ∙ c.as_slice.ensures)
    (c.in_ok-to.ensures.incidents ∙ c.in_ok-incidents.ensures ∙ ap (with_incident c.args.asked.now.number _) c.as_slice-before.ensures
    ∙ ap (λ what. with_incident c.args.asked.now.number what c.args.from.now.incidents) c.incident_of_turn-incident.ensures)
