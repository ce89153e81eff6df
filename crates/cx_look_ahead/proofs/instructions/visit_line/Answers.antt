use Rattle.cx_look_ahead.specs.Instructions.{visit_line}
use Rattle.cx_look_ahead.proofs.instructions.visit_line.Goals as goal

pub returns : goal.returns
unfolding visit_line
returns c = rw (c.deref.ensures.value, c.in_ok-word.ensures, c.place_at_address-place.ensures) at c.line.ensures
