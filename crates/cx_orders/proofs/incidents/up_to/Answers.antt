use Rattle.std.proofs.Common.{rules, ap, ◌∙◌}
use Rattle.std.specs.Prelude.{nat_le}
use Rattle.std.specs.List.{filter}
use Rattle.std.proofs.lemmas.Fn.{filter_same}
use Rattle.cx_orders.specs.declared.states.IncidentAt.{IncidentAt}
use Rattle.cx_orders.proofs.incidents.up_to.Goals as goal

pub returns : goal.returns
returns c =
    filter_same _ (λ (i : IncidentAt). nat_le i.number c.args.number) _ (λ x b f' k. search rules) _ _ c.retain.ensures.filtered
    ∙ ap (λ some. filter (λ (i : IncidentAt). nat_le i.number c.args.number) some) c.in_ok-some.ensures.items
