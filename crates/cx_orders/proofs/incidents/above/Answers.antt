use Rattle.std.proofs.Common.{rules, ap, ◌∙◌}
use Rattle.std.specs.Prelude.{nat_lt}
use Rattle.std.specs.List.{filter}
use Rattle.std.proofs.lemmas.Fn.{filter_same}
use Rattle.cx_orders.specs.declared.states.IncidentAt.{IncidentAt}
use Rattle.cx_orders.proofs.incidents.above.Goals as goal

pub returns : goal.returns
returns c =
    filter_same _ (λ (i : IncidentAt). nat_lt c.args.number i.number) _ (λ x b f' k. search rules) _ _ c.retain.ensures.filtered
    ∙ ap (λ some. filter (λ (i : IncidentAt). nat_lt c.args.number i.number) some) c.in_ok-some.ensures.items
