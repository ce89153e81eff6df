use Rattle.std.proofs.Common.{subst}
use Rattle.std.specs.Prelude.{MatchOption, None}
use Rattle.cx_choices.specs.Moves.{begun}
use Rattle.cx_choices.specs.declared.states.ChoicesState.{ChoicesState}
use Rattle.cx_look_choices.proofs.NumberLemmas.{compared_by, compared_never, compared_without}
use Rattle.cx_look_choices.specs.Presses.{ArePresses}
use Rattle.cx_look_choices.proofs.numbers.compare_numbers.Goals as goal

pub returns-in_default : goal.returns-in_default
returns-in_default g c =
    compared_without (g.V.Seen.shows c.args.seen.now) c.args.choices.now.choices.items c.args.region.now c.args.state.now c.args.presses.now
    c.args.choices.now.one_number c.in_default.is

pub returns-in_default-2 : goal.returns-in_default-2
returns-in_default-2 g c =
    let choices = c.args.choices.now.choices.items in
    let from = begun c.args.region.now in
    let presses = c.args.presses.now in
    compared_never (g.V.Seen.shows c.args.seen.now) choices c.args.region.now c.args.state.now presses c.args.choices.now.one_number c.in-Some._number
    c.in-Some.is
    (subst (λ o. MatchOption o ((to : ChoicesState) → ArePresses choices None from presses to → ⊥) (ArePresses choices None from presses)) c.in_default-2.is
    c.in_ok-real.ensures)

pub returns : goal.returns
returns g c =
    let choices = c.args.choices.now.choices.items in
    let from = begun c.args.region.now in
    let presses = c.args.presses.now in
    compared_by (g.V.Seen.shows c.args.seen.now) choices c.args.region.now c.args.state.now presses c.choices_decide.ensures.passages c.in-Some._number
    c.in-Some-2.real
    (subst (λ o. MatchOption o ((to : ChoicesState) → ArePresses choices None from presses to → ⊥) (ArePresses choices None from presses)) c.in-Some-2.is
    c.in_ok-real.ensures)
    c.args.choices.now.one_number c.in-Some.is c.in_ok-same_list.same_list c.in_ok-same_list.ensures c.in_ok-same_keys.same_keys c.in_ok-same_keys.ensures
