use Rattle.cx_region_laws.proofs.LoadedLemmas.{images_are_loaded}
use Rattle.cx_region_laws.proofs.OutcomeLemmas.{event_lists_are_runs, events_have_outcomes, half_turns_have_ends}
use Rattle.cx_region_laws.proofs.StepOutcomeLemmas.{advances_have_outcomes}
use Rattle.cx_region_laws.proofs.laws.each_event_has_an_outcome.Goals as goal

pub returns-clause-turns : goal.returns-clause-turns
returns-clause-turns c = half_turns_have_ends advances_have_outcomes c.every_text_has_lines.ensures

pub returns-clause-events : goal.returns-clause-events
returns-clause-events c = events_have_outcomes (images_are_loaded c.relocation.ensures.size) (half_turns_have_ends advances_have_outcomes c.every_text_has_lines.ensures)

pub returns-clause-runs : goal.returns-clause-runs
returns-clause-runs c =
    event_lists_are_runs (events_have_outcomes (images_are_loaded c.relocation.ensures.size) (half_turns_have_ends advances_have_outcomes c.every_text_has_lines.ensures))
