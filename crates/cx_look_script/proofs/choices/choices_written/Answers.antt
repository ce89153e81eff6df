use Rattle.std.proofs.Common.{◌∙◌, ap}
use Rattle.std.specs.Prelude.{List}
use Rattle.cx_look.specs.declared.orders.Sight.{Sight}
use Rattle.cx_look_script.specs.Orders.{names_with_edf, sights_of}
use Rattle.cx_look_script.specs.State.{LookState}
use Rattle.cx_look_script.proofs.ChoicesLemmas.{choices_shown}
use Rattle.cx_look_script.proofs.choices.choices_written.Goals as goal

pub returns : goal.returns
returns g c =
    choices_shown c.args.looking.now c.args.block _ _ _ _ _ _ _ c.in_ok-report.ensures
    (ap (λ v. v.items) c.new-choices.ensures.choices ∙ c.into_vec.ensures)
    (c.new-choices.ensures.one_number ∙ c.number_of-one_number.ensures.is)
    (c.as_slice.ensures.value ∙ c.in_ok-sights.ensures ∙ ap (λ (ss : List Sight). sights_of ss c.region-region.result.now) c.into_vec-2.ensures)
    (c.region-region.ensures.region ∙ ap (λ (s : LookState). s.edf.region) c.looking.view_is)
    (c.as_slice-2.ensures.value ∙ c.in_ok-edf.ensures ∙ ap (λ (s : LookState). names_with_edf s.edf) c.looking.view_is)
    c.in_ok-text.ensures
