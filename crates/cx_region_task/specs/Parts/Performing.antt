-- What carrying out a decision needs, which no public contract cites.
use Rattle.std.specs.Prelude.{Bool, false, ⊤}
use Rattle.cx_region_state.specs.State.{TaskContext}
use Rattle.cx_region_state.specs.Parts.Fits.{FitsChange}
use Rattle.cx_region_task.specs.declared.decision.Decision.{Decision}
use Rattle.cx_region_task.specs.declared.decision.Decision.TheVariants as decision
use Rattle.cx_region_task.specs.Changes.{change_takes_memory}
use Rattle.cx_region_task.specs.Parts.Making.{MatchWay}

-- the command's change can be made, and its task can go its way
unfoldable pub FitsDecision : Decision → TaskContext → Type 0
FitsDecision (decision.Act act) r = FitsChange act.change r × MatchWay act.continuation r.task.levels
FitsDecision _ r = ⊤

abbrev pub decision_takes_memory : Decision → Bool
decision_takes_memory (decision.Act act) = change_takes_memory act.change
decision_takes_memory _ = false
