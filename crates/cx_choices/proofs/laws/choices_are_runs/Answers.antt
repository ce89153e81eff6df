use Rattle.cx_choices.proofs.RunLemmas as lemmas
use Rattle.cx_choices.proofs.laws.choices_are_runs.Goals as goal

pub returns : goal.returns
returns c = lemmas.choices_are_runs
