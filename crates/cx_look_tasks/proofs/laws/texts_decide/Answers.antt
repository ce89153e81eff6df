use Rattle.cx_look_tasks.proofs.DecideLemmas.{resources_texts_decide, tasks_texts_decide, waits_texts_decide}
use Rattle.cx_look_tasks.proofs.laws.texts_decide.Goals as goal

pub returns-clause-tasks : goal.returns-clause-tasks
returns-clause-tasks c = tasks_texts_decide c.activities_decide.ensures

pub returns-clause-waits : goal.returns-clause-waits
returns-clause-waits c = waits_texts_decide c.activities_decide.ensures

pub returns-clause-resources : goal.returns-clause-resources
returns-clause-resources c = resources_texts_decide c.activities_decide.ensures
