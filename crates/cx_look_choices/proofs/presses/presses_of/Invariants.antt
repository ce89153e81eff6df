use Rattle.cx_search.specs.Moves.{Leads}
use Rattle.cx_choices.specs.Moves.{Goes}
use Rattle.cx_choices.specs.declared.states.ChoicesState.{ChoicesState}
use Rattle.cx_look_choices.proofs.PressLemmas.{Walks}
use Rattle.cx_look_choices.proofs.presses.presses_of.Given as goal

abbrev pub invariant-loop-number : goal.invariant-loop-number
invariant-loop-number g l =
    (to : ChoicesState) → Leads (Goes l.choices.choices.items l.choices.one_number) l.fn.start l.moves to
    → Walks l.choices.choices.items l.choices.one_number l.fn.start l.moves to l.number-index l.at l.presses.items
