use Rattle.cx_script.proofs.InputLemmas.{inputs_decide, read_bound_is, is_read_bound, read_is, failures_reported}
use Rattle.cx_script.proofs.laws.the_input_decides.Goals as goal

pub returns-clause-decide : goal.returns-clause-decide
returns-clause-decide c = inputs_decide c.an_action_has_one_outcome.ensures

pub returns-clause-bound : goal.returns-clause-bound
returns-clause-bound c = read_bound_is

pub returns-clause-bounded : goal.returns-clause-bounded
returns-clause-bounded c = is_read_bound

pub returns-clause-read : goal.returns-clause-read
returns-clause-read c = read_is

pub returns-clause-reported : goal.returns-clause-reported
returns-clause-reported c = failures_reported
