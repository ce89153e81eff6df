use Rattle.std.proofs.Common.{◌∙◌, ◌/◌, ap, refl}
use Rattle.cx_look_orders.specs.Parts.Ways.{came_between}
use Rattle.cx_look_orders.proofs.steps.step_of.Goals as goal

pub returns : goal.returns
returns g c = record {
  number = refl;
  key = c.came_between-key.ensures
      ∙ ap (λ before. came_between before c.as_slice-2.result.now (c.args.number / 2)) c.as_slice.ensures
      ∙ ap (λ after. came_between c.args.from.now.come after (c.args.number / 2)) c.as_slice-2.ensures;
  told = c.in_ok-told.ensures;
}
