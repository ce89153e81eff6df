use Rattle.cx_look_choices.specs.Parts.Ways.{AreFirstArrows, states_of}
use Rattle.cx_look_choices.proofs.arrows.arrows_of.Given as goal

abbrev pub invariant-loop-number : goal.invariant-loop-number
invariant-loop-number g l =
    AreFirstArrows l.searched.choices.now.choices.items l.searched.choices.now.one_number l.searched.region.now
    (states_of l.searched.many l.searched.found.now.states.entries) l.from l.number l.arrows.items
