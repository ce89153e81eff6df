use Rattle.cx_look_ahead.proofs.LineLemmas.{changes_decide}
use Rattle.cx_look_ahead.proofs.WriteLemmas.{writers_are_found, writers_decide as decide}
use Rattle.cx_look_ahead.proofs.laws.writers_decide.Goals as goal

pub returns-clause-writers : goal.returns-clause-writers
returns-clause-writers c = decide c.steps_decide.ensures

pub returns-clause-changes : goal.returns-clause-changes
returns-clause-changes c = changes_decide (decide c.steps_decide.ensures) c.runs_decide.ensures

pub returns-clause-found : goal.returns-clause-found
returns-clause-found c = writers_are_found
