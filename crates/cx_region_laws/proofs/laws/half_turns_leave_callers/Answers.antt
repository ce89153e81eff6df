use Rattle.cx_region_laws.proofs.DueLemmas.{due_is_kept}
use Rattle.cx_region_laws.proofs.RunLemmas.{commands_are_kept}
use Rattle.cx_region_laws.proofs.laws.half_turns_leave_callers.Goals as goal

pub returns-clause-current : goal.returns-clause-current
returns-clause-current c = commands_are_kept

pub returns-clause-due : goal.returns-clause-due
returns-clause-due c = due_is_kept
