use Rattle.std.proofs.Common.{◌+◌, arith}
use Rattle.cx_orders.specs.Moves.{Moves}
use Rattle.cx_look_steps.specs.Steps.{moves_of}
use Rattle.cx_search.specs.Facts.Loops.{loop_leads_on}
use Rattle.cx_look_orders.specs.Facts.Outcomes.{steps_lead}
use Rattle.cx_look_orders.proofs.laws.loops_are_endless.Goals as goal

pub returns : goal.returns
returns c = λ tells keys. record {
  endless = λ start steps is least.
      loop_leads_on (Moves keys) start is.to (moves_of steps) (steps_lead tells keys start is.to steps is.are) is.loops least;
  bounded = λ start is endless.
      let long = endless (is.most + 1) in omega (arith, is.bounded long.moves long.to long.leads, long.long);
}
