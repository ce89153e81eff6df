use Rattle.std.proofs.Common.{◌≡◌, length, refl, subst}
use Rattle.std.specs.Prelude.{MatchOption, None, Some, slice_get}
use Rattle.std.proofs.lemmas.Option.{slice_get_read}
use Rattle.cx_choices.specs.declared.states.ChoicesState.{ChoicesState}
use Rattle.cx_look_choices.proofs.NumberLemmas.{again_ends, again_goes_on, again_stops}
use Rattle.cx_look_choices.specs.Presses.{IsPress}
use Rattle.cx_look_choices.proofs.numbers.made_again.Goals as goal

pub returns-in_default : goal.returns-in_default
returns-in_default g c =
    let choices = c.args.choices.now.choices.items in
    let l = c.loop-press in
    let presses = c.args.presses.now in
    let press = c.press-item.result in
    let there : slice_get presses l.press-index ≡ Some press =
    slice_get_read presses (length presses) l.press-index press refl c.loop-press-test.true c.press-item.is in
    again_stops choices c.args.start l.at presses l.press-index l.invariant press there
    (subst (λ o. MatchOption o ((to : ChoicesState) → IsPress choices None l.at press to → ⊥) (IsPress choices None l.at press)) c.in_default.is
    c.in_ok-to.ensures)

pub loop-press-preserved : goal.loop-press-preserved
loop-press-preserved g c =
    let choices = c.args.choices.now.choices.items in
    let l = c.loop-press in
    let presses = c.args.presses.now in
    let press = c.press-item.result in
    let there : slice_get presses l.press-index ≡ Some press =
    slice_get_read presses (length presses) l.press-index press refl c.loop-press-test.true c.press-item.is in
    again_goes_on choices c.args.start l.at presses l.press-index l.invariant press there c.choices_decide.ensures.passages c.in-Some.to
    (subst (λ o. MatchOption o ((to : ChoicesState) → IsPress choices None l.at press to → ⊥) (IsPress choices None l.at press)) c.in-Some.is
    c.in_ok-to.ensures)

pub returns : goal.returns
returns g c =
    let l = c.loop-press in
    again_ends c.args.choices.now.choices.items c.args.start l.at c.args.presses.now l.press-index l.invariant c.loop-press-test.false
