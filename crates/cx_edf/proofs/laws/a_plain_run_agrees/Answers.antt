use Rattle.cx_edf.proofs.LawLemmas.{a_plain_run_agrees, reported_are_those_given}
use Rattle.cx_edf.proofs.laws.a_plain_run_agrees.Goals as goal

pub returns-clause-run : goal.returns-clause-run
returns-clause-run c = a_plain_run_agrees c.runs_decide.ensures

pub returns-clause-replies : goal.returns-clause-replies
returns-clause-replies c = reported_are_those_given
