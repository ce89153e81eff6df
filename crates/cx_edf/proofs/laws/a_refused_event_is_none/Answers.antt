use Rattle.cx_edf.proofs.MemoryLemmas.{refused_events_are_none}
use Rattle.cx_edf.proofs.laws.a_refused_event_is_none.Goals as goal

pub returns-clause-event : goal.returns-clause-event
returns-clause-event c = refused_events_are_none c.edf_events_decide.ensures
