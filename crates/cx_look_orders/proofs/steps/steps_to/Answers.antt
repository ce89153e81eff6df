use Rattle.std.proofs.Common.{subst, sym}
use Rattle.cx_search.specs.Moves.{Leads}
use Rattle.cx_orders.specs.Moves.{Moves, begun}
use Rattle.cx_look_orders.specs.Parts.Ways.{AreFirstSteps, AreStepsOf}
use Rattle.cx_look_steps.specs.Facts.Lists.{ok_on}
use Rattle.cx_look_orders.proofs.StepLemmas.{first_steps}
use Rattle.cx_look_orders.proofs.steps.steps_to.Goals as goal

pub returns : goal.returns
returns g c = λ state f at.
    let tells = g.V.Seen.tells c.args.seen.now in
    let keys = c.args.orders.now.keys in
    let from = begun c.args.region.now in
    let start = c.in_ok-start.start in
    let moves = c.in_ok-moves.moves.items in
    let first = c.in_ok-moves.ensures c.args.orders.now from state f at in
    let leads = subst (λ ms. Leads (Moves keys) start ms state) (sym c.as_slice.ensures.value)
    (subst (λ s. Leads (Moves keys) s moves state) (sym c.in_ok-start.ensures) first.leads) in
    ok_on (AreStepsOf tells keys start c.as_slice.result.now state) (AreFirstSteps tells keys from state) c.steps_of.result
    (λ steps are.
    first_steps tells keys from state moves steps first
    (subst (λ s. AreStepsOf tells keys s moves state steps) c.in_ok-start.ensures
    (subst (λ ms. AreStepsOf tells keys start ms state steps) c.as_slice.ensures.value are)))
    (c.steps_of.ensures state leads)
