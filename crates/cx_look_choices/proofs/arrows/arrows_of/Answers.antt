use Rattle.std.proofs.Common.{arith, subst, sym}
use Rattle.cx_look_choices.specs.Parts.Ways.{AreFirstArrows, states_of}
use Rattle.cx_look_choices.specs.Rows.{AreArrows}
use Rattle.cx_look_choices.proofs.ArrowLemmas.{all_arrows, first_none}
use Rattle.cx_look_choices.proofs.arrows.arrows_of.Goals as goal

pub loop-number-init : goal.loop-number-init
loop-number-init g c =
    let choices = c.args.searched.now.choices.now.choices.items in
    let one_number = c.args.searched.now.choices.now.one_number in
    let region = c.args.searched.now.region.now in
    let states = states_of c.args.searched.now.many c.args.searched.now.found.now.states.entries in
    subst (AreFirstArrows choices one_number region states c.args.from.now 0) (sym c.new-arrows.ensures.items)
    (first_none choices one_number region states c.args.from.now)

pub returns : goal.returns
returns g c =
    let choices = c.args.searched.now.choices.now.choices.items in
    let one_number = c.args.searched.now.choices.now.one_number in
    let region = c.args.searched.now.region.now in
    let states = states_of c.args.searched.now.many c.args.searched.now.found.now.states.entries in
    let many = c.many_keys-number-end.ensures in
    subst (AreArrows choices one_number region states c.args.from.now) (sym c.from_vec.ensures)
    (all_arrows choices one_number region states c.args.from.now c.loop-number.number c.loop-number.arrows.items
    (omega (arith, many, c.loop-number-test.false)) c.loop-number.invariant)
