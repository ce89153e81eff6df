use Rattle.std.proofs.Common.{◌∙◌, ap, length}
use Rattle.cx_region.specs.State.{RegionState}
use Rattle.cx_orders.proofs.moves.Orders.search.Goals as goal

pub begin-requires : goal.begin-requires
begin-requires g c =
    c.len-terminals.ensures.len ∙ ap length c.terminals.ensures ∙ ap (λ (r : RegionState). length r.terminals) c.in_ok-restore.ensures.ok
