use Rattle.std.proofs.Common.{◌∙◌, ap}
use Rattle.cx_look.specs.declared.orders.Sight.{Sight}
use Rattle.std.specs.Prelude.{List}
use Rattle.cx_look_script.specs.Orders.{names_with_edf, sights_of}
use Rattle.cx_look_script.specs.State.{LookState}
use Rattle.cx_look_script.proofs.OrdersLemmas.{orders_shown}
use Rattle.cx_look_script.proofs.orders.orders_written.Goals as goal

pub returns : goal.returns
returns g c =
    orders_shown c.args.looking.now c.args.block _ _ _ _ _ _ c.in_ok-report.ensures
    c.new-orders.ensures
    (c.as_slice.ensures.value ∙ c.in_ok-sights.ensures ∙ ap (λ (ss : List Sight). sights_of ss c.region-region.result.now) c.into_vec.ensures)
    (c.region-region.ensures.region ∙ ap (λ (s : LookState). s.edf.region) c.looking.view_is)
    (c.as_slice-2.ensures.value ∙ c.in_ok-edf.ensures ∙ ap (λ (s : LookState). names_with_edf s.edf) c.looking.view_is)
    c.in_ok-text.ensures
