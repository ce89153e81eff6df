use Rattle.std.proofs.Common.{subst, sym}
use Rattle.std.specs.Prelude.{MatchBool}
use Rattle.cx_orders.specs.Moves.{begun}
use Rattle.cx_look_orders.specs.Outcomes.{AllCanRest, IsStuck}
use Rattle.cx_look_orders.proofs.PlaceLemmas.{stuck_cases}
use Rattle.cx_look_orders.proofs.report.is_stuck.Goals as goal

pub returns : goal.returns
returns g c =
    let keys = c.args.orders.now.keys in
    let start = begun c.args.region.now in
    subst (λ b. MatchBool b (IsStuck keys start) (AllCanRest keys start)) (sym c.is_some.ensures)
    (stuck_cases keys start c.args.found.now.states.entries c.requires.finds c.in_ok-place.place
    (c.in_ok-place.ensures c.args.orders.now start c.requires.whole))
