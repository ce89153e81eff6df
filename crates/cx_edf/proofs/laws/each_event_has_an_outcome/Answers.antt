use Rattle.cx_edf.proofs.OutcomeLemmas.{event_lists_are_runs, events_have_outcomes}
use Rattle.cx_edf.proofs.laws.each_event_has_an_outcome.Goals as goal

pub returns-clause-events : goal.returns-clause-events
returns-clause-events c = events_have_outcomes c.each_event_has_an_outcome.ensures.events

pub returns-clause-runs : goal.returns-clause-runs
returns-clause-runs c = event_lists_are_runs c.each_event_has_an_outcome.ensures.events
