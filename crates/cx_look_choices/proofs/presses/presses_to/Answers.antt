use Rattle.std.proofs.Common.{ap, subst, sym}
use Rattle.cx_search.specs.Moves.{Leads}
use Rattle.cx_choices.specs.Moves.{Goes, begun}
use Rattle.cx_choices.specs.declared.states.ChoicesState.{ChoicesState}
use Rattle.cx_look_choices.specs.Parts.Ways.{AreFirstPresses, ArePressesOf}
use Rattle.cx_look_steps.specs.Facts.Lists.{ok_on}
use Rattle.cx_look_choices.proofs.PressLemmas.{first_presses}
use Rattle.cx_look_choices.proofs.presses.presses_to.Goals as goal

pub returns : goal.returns
returns g c = λ state f at.
    let choices = c.args.choices.now.choices.items in
    let one_number = c.args.choices.now.one_number in
    let from = begun c.args.region.now in
    let start : ChoicesState = record { region = c.in_ok-region.region } in
    let same = ap begun c.in_ok-region.ensures in
    let moves = c.in_ok-moves.moves.items in
    let first = c.in_ok-moves.ensures c.args.choices.now from state f at in
    let leads = subst (λ ms. Leads (Goes choices one_number) start ms state) (sym c.as_slice.ensures.value)
    (subst (λ s. Leads (Goes choices one_number) s moves state) (sym same) first.leads) in
    ok_on (ArePressesOf choices one_number start c.as_slice.result.now state) (AreFirstPresses choices one_number from state) c.presses_of.result
    (λ presses are.
    first_presses choices one_number from state moves presses first
    (subst (λ s. ArePressesOf choices one_number s moves state presses) same
    (subst (λ ms. ArePressesOf choices one_number start ms state presses) c.as_slice.ensures.value are)))
    (c.presses_of.ensures state leads)
