use Rattle.cx_headline.specs.Laws.Rows.{EachIsItsRow}
use Rattle.cx_headline.proofs.RowLemmas.{each_is_its_row}
use Rattle.cx_headline.proofs.ScriptLemmas.{of_scripts}
use Rattle.cx_headline.proofs.laws.every_half_turn_is_its_row.Goals as goal

pub returns-clause-runs : goal.returns-clause-runs
returns-clause-runs c = each_is_its_row c.half_turns_decide.ensures c.what_is_erased_changes_nothing.ensures.answers c.what_is_erased_changes_nothing.ensures.erased c.what_is_erased_changes_nothing.ensures.region c.what_is_erased_changes_nothing.ensures.passed

pub returns-clause-scripts : goal.returns-clause-scripts
returns-clause-scripts c =
    of_scripts c.a_script_runs_its_events.ensures EachIsItsRow (each_is_its_row c.half_turns_decide.ensures c.what_is_erased_changes_nothing.ensures.answers c.what_is_erased_changes_nothing.ensures.erased c.what_is_erased_changes_nothing.ensures.region c.what_is_erased_changes_nothing.ensures.passed)
