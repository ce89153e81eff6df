use Rattle.std.proofs.Common.{◌≡◌, ◌++◌, drop}
use Rattle.std.specs.List.{flat_map}
use Rattle.cx_orders.specs.Incidents.{incident_of_turn}
use Rattle.cx_choices.specs.declared.states.TurnMade.{TurnMade}
use Rattle.cx_look_choices.specs.Rows.{incident_at}
use Rattle.cx_look_choices.proofs.arrows.push_turn_incidents.Given as goal

abbrev pub invariant-loop-turn : goal.invariant-loop-turn
invariant-loop-turn l =
    l.incidents.items ++ flat_map (λ (turn : TurnMade). incident_at turn.number (incident_of_turn turn.reply)) (drop l.turn-index l.made)
    ≡ l.initial.incidents.items ++ flat_map (λ (turn : TurnMade). incident_at turn.number (incident_of_turn turn.reply)) l.made
