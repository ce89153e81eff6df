use Rattle.std.proofs.Common.{arith, subst, sym}
use Rattle.cx_search.specs.Rest.{AreResting}
use Rattle.cx_orders.specs.Moves.{Moves, begun}
use Rattle.cx_look_orders.specs.Parts.Ways.{AreOfFirst, AreSorted}
use Rattle.cx_look_orders.proofs.OutcomeLemmas.{all_outcomes, first_none, first_whole}
use Rattle.cx_look_orders.proofs.outcomes.outcomes_of.Goals as goal

pub loop-index-init : goal.loop-index-init
loop-index-init g c =
    subst (AreOfFirst (g.V.Seen.shows c.args.searched.now.seen.now) (g.V.Seen.tells c.args.searched.now.seen.now) c.args.searched.now.orders.now.keys (begun c.args.searched.now.region.now) c.args.searched.now.found.now.states.entries c.as_slice-places.result.now 0)
    (sym c.new-outcomes.ensures.items)
    (first_none (g.V.Seen.shows c.args.searched.now.seen.now) (g.V.Seen.tells c.args.searched.now.seen.now) c.args.searched.now.orders.now.keys (begun c.args.searched.now.region.now) c.args.searched.now.found.now.states.entries c.as_slice-places.result.now
    c.shows_decide.ensures c.texts_decide.ensures.waits)

pub add_outcome-requires-clause-sorted : goal.add_outcome-requires-clause-sorted
add_outcome-requires-clause-sorted g c = subst AreSorted (sym c.as_slice-places.ensures.value) c.in_ok-resting.ensures.ordered

pub returns : goal.returns
returns g c =
    let shows = g.V.Seen.shows c.args.searched.now.seen.now in
    let tells = g.V.Seen.tells c.args.searched.now.seen.now in
    let keys = c.args.searched.now.orders.now.keys in
    let start = begun c.args.searched.now.region.now in
    let found = c.args.searched.now.found.now.states.entries in
    let places = c.as_slice-places.result.now in
    let shown = c.shows_decide.ensures in
    let waits = c.texts_decide.ensures.waits in
    let rest = subst (AreResting (Moves keys) found c.args.cut) (sym c.as_slice-places.ensures.value) c.in_ok-resting.ensures in
    let outcomes = c.loop-index.outcomes.items in
    all_outcomes shows tells keys start found places shown waits rest.ordered c.requires.finds c.args.cut c.one_list_is_sooner.ensures
    (c.one_list_leads_first.ensures c.args.searched.now.orders.now) rest c.requires.reaches outcomes
    (first_whole shows tells keys start found places shown waits c.loop-index.index outcomes (omega (arith, c.loop-index-test.false)) c.loop-index.invariant)
