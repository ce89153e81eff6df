use Rattle.cx_look_ahead.specs.Instructions.{count_line}
use Rattle.cx_look_ahead.proofs.instructions.count_line.Goals as goal

pub returns : goal.returns
unfolding count_line
returns c = rw (c.deref.ensures.value, c.in_ok-count.ensures) at c.line.ensures
