use Rattle.cx_headline.proofs.DueLemmas.{events_keep, runs_keep, scripts_keep, watched_keep}
use Rattle.cx_headline.proofs.laws.what_is_due_is_kept.Goals as goal

pub returns-clause-events : goal.returns-clause-events
returns-clause-events c = events_keep c.half_turns_leave_callers.ensures.due c.an_alteration_keeps_to_its_task.ensures.levels

pub returns-clause-runs : goal.returns-clause-runs
returns-clause-runs c = runs_keep c.half_turns_leave_callers.ensures.due c.an_alteration_keeps_to_its_task.ensures.levels

pub returns-clause-watched : goal.returns-clause-watched
returns-clause-watched c =
    watched_keep c.half_turns_leave_callers.ensures.due c.an_alteration_keeps_to_its_task.ensures.levels c.single_events_are_a_run.ensures.fronts c.what_is_left_is_a_run.ensures

pub returns-clause-scripts : goal.returns-clause-scripts
returns-clause-scripts c =
    scripts_keep c.half_turns_leave_callers.ensures.due c.an_alteration_keeps_to_its_task.ensures.levels c.single_events_are_a_run.ensures.fronts c.what_is_left_is_a_run.ensures
    c.a_script_runs_its_events.ensures
