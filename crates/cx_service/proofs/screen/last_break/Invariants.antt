use Rattle.cx_service.specs.Parts.LineSteps.{IsLastBreakBelow}
use Rattle.cx_service.proofs.screen.last_break.Given as goal

abbrev pub invariant-loop-k : goal.invariant-loop-k
invariant-loop-k l = IsLastBreakBelow l.k l.part l.last
