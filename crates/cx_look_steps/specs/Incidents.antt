-- What was kept of a way to a state: how tasks ended by abends, and keys that were refused (this product's own).
use Rattle.std.specs.Prelude.{ℕ, List, [], ◌∷◌, codes, slice_get}
use Rattle.std.specs.Option.{option_map_or}
use Rattle.cx_base.specs.Texts.{shown_name}
use Rattle.cx_look_lines.specs.Words.{Lines, look_line}
use Rattle.cx_orders.specs.declared.states.Incident.{Incident}
use Rattle.cx_orders.specs.declared.states.Incident.TheVariants as incident
use Rattle.cx_orders.specs.declared.states.IncidentAt.{IncidentAt}
use Rattle.cx_region.specs.Replies.{key_reply_name}
use Rattle.cx_region.specs.State.{RegionState}

abbrev pub incident_word : Incident → List ℕ
incident_word (incident.Abended code) = codes "ABENDS"
incident_word (incident.Refused reply) = codes "ANSWERS"

abbrev pub incident_value : Incident → List ℕ
incident_value (incident.Abended code) = shown_name code
incident_value (incident.Refused reply) = key_reply_name reply

-- the name of the terminal with that number, counted from 0
abbrev pub terminal_name_at : RegionState → ℕ → List ℕ
terminal_name_at region number = option_map_or (λ entry. shown_name entry.0) (slice_get region.terminals number) []

unfoldable pub incident_line : RegionState → IncidentAt → Lines
incident_line region one =
    look_line (incident_word one.incident ∷ terminal_name_at region one.number ∷ incident_value one.incident ∷ [])
