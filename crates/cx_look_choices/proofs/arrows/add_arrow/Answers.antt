use Rattle.std.proofs.Common.{◌+◌, subst, sym}
use Rattle.cx_look_choices.specs.Parts.Ways.{AreFirstArrows, MayLead, states_of}
use Rattle.cx_look_choices.proofs.ArrowLemmas.{first_on, first_past}
use Rattle.cx_look_choices.proofs.arrows.add_arrow.Goals as goal

pub returns-in_default : goal.returns-in_default
returns-in_default g c =
    let choices = c.args.searched.now.choices.now.choices.items in
    let one_number = c.args.searched.now.choices.now.one_number in
    let region = c.args.searched.now.region.now in
    let states = states_of c.args.searched.now.many c.args.searched.now.found.now.states.entries in
    first_past choices one_number region states c.args.from.now c.args.number c.args.arrows.now.items c.requires.so_far
    (subst (MayLead choices one_number region states c.args.from.now c.args.number) c.in_default.is c.in_ok-arrow.ensures)

pub returns : goal.returns
returns g c =
    let choices = c.args.searched.now.choices.now.choices.items in
    let one_number = c.args.searched.now.choices.now.one_number in
    let region = c.args.searched.now.region.now in
    let states = states_of c.args.searched.now.many c.args.searched.now.found.now.states.entries in
    subst (AreFirstArrows choices one_number region states c.args.from.now (c.args.number + 1)) (sym c.in_ok-push.ensures.items)
    (first_on choices one_number region states c.args.from.now c.args.number c.args.arrows.now.items c.in-Some.arrow c.requires.so_far
    (subst (MayLead choices one_number region states c.args.from.now c.args.number) c.in-Some.is c.in_ok-arrow.ensures))
