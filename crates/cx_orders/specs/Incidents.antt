-- What is kept of the way to a state: how tasks ended by abends, and which keys were refused (this product's own).
use Rattle.std.specs.Prelude.{ℕ, nat_le, nat_lt, List, ◌∷◌, ◌++◌, filter, Option, Some, None}
use Rattle.cx_region.specs.declared.replies.KeyReply.{KeyReply}
use Rattle.cx_region.specs.declared.replies.KeyReply.TheVariants as key
use Rattle.cx_region_state.specs.declared.replies.TurnReply.{TurnReply}
use Rattle.cx_region_state.specs.declared.replies.TurnReply.TheVariants as turn
use Rattle.cx_orders.specs.declared.states.Incident.{Incident}
use Rattle.cx_orders.specs.declared.states.Incident.TheVariants as incident
use Rattle.cx_orders.specs.declared.states.IncidentAt.{IncidentAt}

-- the task ended by an abend
abbrev pub incident_of_turn : TurnReply → Option Incident
incident_of_turn (turn.Abended code) = Some (incident.Abended code)
incident_of_turn _ = None

-- the key was answered, and neither attached a task nor was its input held
abbrev pub incident_of_key : KeyReply → Option Incident
incident_of_key key.Attached = None
incident_of_key key.Given = None
incident_of_key reply = Some (incident.Refused reply)

-- one more of a terminal; those of one terminal stand together, in their order, and terminals in the order of their
-- numbers
unfoldable pub with_incident : ℕ → Option Incident → List IncidentAt → List IncidentAt
with_incident number None incidents = incidents
with_incident number (Some what) incidents =
    filter (λ i. nat_le i.number number) incidents
    ++ record { number = number; incident = what } ∷ filter (λ i. nat_lt number i.number) incidents
