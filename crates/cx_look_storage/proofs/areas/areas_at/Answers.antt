use Rattle.std.proofs.Common.{rules, ap, ◌∙◌}
use Rattle.std.specs.List.{filter}
use Rattle.std.proofs.lemmas.Fn.{filter_same}
use Rattle.cx_storage.specs.declared.areas.Area.{Area}
use Rattle.cx_look_storage.specs.Parts.Walk.{is_of}
use Rattle.cx_look_storage.proofs.areas.areas_at.Goals as goal

pub returns : goal.returns
returns g c =
    filter_same _ (λ (area : Area). is_of c.args.slot area) _ (λ x b f' k. search rules) _ _ c.retain.ensures.filtered
    ∙ ap (λ areas. filter (is_of c.args.slot) areas) c.in_ok-areas.ensures
