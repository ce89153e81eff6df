use Rattle.std.proofs.Common.{get_or, subst, sym}
use Rattle.std.proofs.lemmas.Option.{slice_get-get_or}
use Rattle.cx_search.specs.Moves.{GoesTo}
use Rattle.cx_orders.specs.Moves.{Moves}
use Rattle.cx_look_orders.specs.Parts.Ways.{AreStepsOf}
use Rattle.cx_look_orders.proofs.StepLemmas.{Walks, walk_begins, walk_ends, walk_pushed, walk_stops}
use Rattle.cx_look_orders.proofs.steps.steps_of.Goals as goal

pub loop-number-init : goal.loop-number-init
loop-number-init g c = λ to leads.
    let tells = g.V.Seen.tells c.args.seen.now in
    subst (Walks tells c.args.orders.now.keys c.args.start c.args.moves.now to 0 c.args.start) (sym c.new-steps.ensures.items)
    (walk_begins tells c.args.orders.now.keys c.args.start c.args.moves.now to leads)

pub returns-in_default : goal.returns-in_default
returns-in_default g c = λ to leads.
    let l = c.loop-number in
    let tells = g.V.Seen.tells c.args.seen.now in
    let number = get_or c.args.moves.now l.number-index 0 in
    absurd (walk_stops tells c.args.orders.now.keys c.args.start c.args.moves.now to l.number-index l.at l.steps.items number (l.invariant to leads)
    (slice_get-get_or c.args.moves.now l.number-index 0 c.loop-number-test.true)
    (subst (GoesTo (Moves c.args.orders.now.keys) l.at number) c.in_default.is c.in_ok-to.ensures))

pub loop-number-preserved : goal.loop-number-preserved
loop-number-preserved g c = λ to leads.
    let l = c.loop-number in
    let tells = g.V.Seen.tells c.args.seen.now in
    let number = get_or c.args.moves.now l.number-index 0 in
    let next = c.in-Some.to in
    walk_pushed tells c.args.orders.now.keys c.args.start c.args.moves.now to l.number-index l.at l.steps.items c.push.new.self.items number next
    c.in_ok-step.step c.in_ok-step.ensures (l.invariant to leads)
    (slice_get-get_or c.args.moves.now l.number-index 0 c.loop-number-test.true)
    (subst (GoesTo (Moves c.args.orders.now.keys) l.at number) c.in-Some.is c.in_ok-to.ensures)
    c.in_ok-push.ensures.items

pub returns : goal.returns
returns g c = λ to leads.
    let l = c.loop-number in
    let tells = g.V.Seen.tells c.args.seen.now in
    subst (AreStepsOf tells c.args.orders.now.keys c.args.start c.args.moves.now to) (sym c.from_vec-2.ensures)
    (walk_ends tells c.args.orders.now.keys c.args.start c.args.moves.now to l.number-index l.at l.steps.items (l.invariant to leads) c.loop-number-test.false)
