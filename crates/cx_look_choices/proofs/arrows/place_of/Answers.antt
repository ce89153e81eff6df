use Rattle.cx_look_choices.proofs.PlaceLemmas.{placed, placed_nowhere, placed_past}
use Rattle.cx_look_choices.proofs.arrows.place_of.Goals as goal

pub returns-in_default : goal.returns-in_default
returns-in_default g c = placed_nowhere c.args.found.now.states.entries c.args.many c.args.state.now c.in_default.ensures.absent

pub returns-then-place-many : goal.returns-then-place-many
returns-then-place-many g c =
    placed c.args.found.now.states.entries c.args.many c.in-Some.place c.args.state.now c.if-place-many.true c.in-Some.ensures.found

pub returns-else-place-many : goal.returns-else-place-many
returns-else-place-many g c =
    placed_past c.args.found.now.states.entries c.args.many c.requires c.in-Some.place c.args.state.now c.if-place-many.false c.in-Some.ensures.found
