use Rattle.cx_headline.proofs.ScriptLemmas.{looked_over}
use Rattle.cx_headline.proofs.laws.looking_changes_nothing.Goals as goal

pub returns-clause-scripts : goal.returns-clause-scripts
returns-clause-scripts c = looked_over c.a_script_runs_its_events.ensures c.looks_change_nothing.ensures
