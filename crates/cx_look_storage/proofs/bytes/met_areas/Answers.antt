use Rattle.std.proofs.Common.{rules, ap, ◌∙◌}
use Rattle.std.specs.List.{filter}
use Rattle.std.proofs.lemmas.Fn.{filter_same}
use Rattle.cx_storage.specs.declared.areas.Area.{Area}
use Rattle.cx_look_storage.specs.Uses.{is_met}
use Rattle.cx_look_storage.proofs.bytes.met_areas.Goals as goal

pub returns : goal.returns
returns g c =
    filter_same _ (λ (area : Area). is_met c.args.address c.args.n area) _ (λ x b f' k. search rules) _ _ c.retain.ensures.filtered
    ∙ ap (λ areas. filter (is_met c.args.address c.args.n) areas) c.in_ok-areas.ensures
