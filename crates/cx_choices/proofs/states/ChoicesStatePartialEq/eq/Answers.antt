use Rattle.cx_choices.specs.Facts.Same.{same_as}
use Rattle.cx_choices.proofs.states.ChoicesStatePartialEq.eq.Goals as goal

pub returns : goal.returns
returns c = same_as c.is_same.result c.args.self.now c.args.other.now c.is_same.ensures
