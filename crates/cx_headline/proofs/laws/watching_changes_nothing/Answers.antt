use Rattle.cx_headline.specs.Laws.Watching.{IsAsUnwatched}
use Rattle.cx_headline.proofs.ScriptLemmas.{of_scripts}
use Rattle.cx_headline.proofs.WatchLemmas.{WatchLaws, same_states, showing_changes_nothing}
use Rattle.cx_headline.proofs.laws.watching_changes_nothing.Goals as goal

pub returns-clause-runs : goal.returns-clause-runs
returns-clause-runs c =
    let laws : WatchLaws = record {
      decide = c.runs_decide.ensures;
      fronts = c.single_events_are_a_run.ensures.fronts;
      whole = c.what_is_left_is_a_run.ensures;
      own = c.what_is_erased_changes_nothing.ensures.answers;
      erased = c.what_is_erased_changes_nothing.ensures.erased;
      passed = c.what_is_erased_changes_nothing.ensures.passed;
      off = c.off_is_the_region.ensures.off;
      exists = c.off_is_the_region.ensures.exists;
    } in
    same_states laws

pub returns-clause-scripts : goal.returns-clause-scripts
returns-clause-scripts c =
    let laws : WatchLaws = record {
      decide = c.runs_decide.ensures;
      fronts = c.single_events_are_a_run.ensures.fronts;
      whole = c.what_is_left_is_a_run.ensures;
      own = c.what_is_erased_changes_nothing.ensures.answers;
      erased = c.what_is_erased_changes_nothing.ensures.erased;
      passed = c.what_is_erased_changes_nothing.ensures.passed;
      off = c.off_is_the_region.ensures.off;
      exists = c.off_is_the_region.ensures.exists;
    } in
    of_scripts c.a_script_runs_its_events.ensures IsAsUnwatched (same_states laws)

pub returns-clause-shown : goal.returns-clause-shown
returns-clause-shown c = showing_changes_nothing
