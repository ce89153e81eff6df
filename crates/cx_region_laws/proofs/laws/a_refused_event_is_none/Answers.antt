use Rattle.cx_region_laws.proofs.MemoryLemmas.{refused_events_are_none}
use Rattle.cx_region_laws.proofs.laws.a_refused_event_is_none.Goals as goal

pub returns-clause-event : goal.returns-clause-event
returns-clause-event c = refused_events_are_none c.events_decide.ensures
