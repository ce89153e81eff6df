use Rattle.std.proofs.Common.{◌∙◌, ap, length, sym}
use Rattle.cx_region.specs.State.{RegionState}
use Rattle.cx_look_orders.proofs.steps.begin_at.Goals as goal

pub begin-requires : goal.begin-requires
begin-requires g c =
    c.len.ensures.len ∙ ap length c.terminals.ensures ∙ ap (λ (r : RegionState). length r.terminals) (sym c.in_ok-snapshot.ensures)
