use Rattle.std.proofs.Common.{subst}
use Rattle.std.specs.Prelude.{MatchOption}
use Rattle.cx_search.specs.Forever.{IsBounded, IsFirstPlaceOf, Loops}
use Rattle.cx_orders.specs.Moves.{Moves, begun}
use Rattle.cx_look_orders.proofs.PlaceLemmas.{loops_first}
use Rattle.cx_look_orders.proofs.report.loop_of.Goals as goal

pub returns-in_default : goal.returns-in_default
returns-in_default g c =
    subst (λ o. MatchOption o (IsBounded (Moves c.args.orders.now.keys) (begun c.args.region.now))
    (IsFirstPlaceOf (Loops (Moves c.args.orders.now.keys)) c.args.found.now.states.entries)) c.in_default.is
    (c.in_ok-place.ensures c.args.orders.now (begun c.args.region.now) c.requires.finds c.requires.whole)

pub returns : goal.returns
returns g c =
    let is = subst (λ o. MatchOption o (IsBounded (Moves c.args.orders.now.keys) (begun c.args.region.now))
    (IsFirstPlaceOf (Loops (Moves c.args.orders.now.keys)) c.args.found.now.states.entries)) c.in-Some.is
    (c.in_ok-place.ensures c.args.orders.now (begun c.args.region.now) c.requires.finds c.requires.whole) in
    loops_first c.args.orders.now.keys (begun c.args.region.now) c.args.found.now.states.entries c.one_list_is_sooner.ensures c.requires.finds (g.V.Seen.tells c.args.seen.now) c.requires.whole.all c.in-Some.place is c.in_ok-steps.steps
    (c.in_ok-steps.ensures is.is.state c.requires.finds is.is.at)
