use Rattle.std.proofs.Common.{◌≡◌, ◌∙◌, ◌++◌, ap, append-nil, sym}
use Rattle.std.specs.List.{flat_map}
use Rattle.std.specs.Option.{option_copied}
use Rattle.cx_orders.specs.Incidents.{incident_of_key}
use Rattle.cx_look_choices.specs.Presses.{key_pressed, terminal_number}
use Rattle.cx_look_choices.specs.Rows.{incident_at, key_incidents}
use Rattle.cx_look_steps.specs.Facts.Lists.{ok_on}
use Rattle.cx_look_choices.proofs.PressLemmas.{key_none, key_some}
use Rattle.cx_look_choices.proofs.arrows.push_key_incidents.Goals as goal

pub returns-in_default : goal.returns-in_default
returns-in_default g c =
    let old = c.args.incidents.now.items in
    let of = key_incidents c.args.region.now c.args.passage.now in
    sym
    (ap (λ ks. old ++ flat_map of ks) (key_none c.args.choices.now c.args.number (sym c.choice_at.ensures ∙ ap option_copied c.in_default.is))
    ∙ append-nil old)

pub returns : goal.returns
returns g c =
    let old = c.args.incidents.now.items in
    let region = c.args.region.now in
    let of = key_incidents region c.args.passage.now in
    let choice = c.in-Some.choice.now in
    let terminal = terminal_number region choice.name in
    let new = c.push_incident.new.incidents.items in
    ok_on (λ _. new ≡ old ++ incident_at c.terminal_number-terminal.result c.incident_of_key.result)
    (λ _. new ≡ old ++ flat_map of (key_pressed c.args.choices.now c.args.number)) c.push_incident.result
    (λ _ e.
    e ∙ ap (λ n. old ++ incident_at n c.incident_of_key.result) c.terminal_number-terminal.ensures
    ∙ ap (λ w. old ++ incident_at terminal w) c.incident_of_key.ensures
    ∙ ap (λ is. old ++ is) (sym (append-nil (incident_at terminal (incident_of_key c.args.passage.now.reply))))
    ∙ sym (ap (λ ks. old ++ flat_map of ks) (key_some c.args.choices.now c.args.number choice (sym c.choice_at.ensures ∙ ap option_copied c.in-Some.is))))
    c.push_incident.ensures
