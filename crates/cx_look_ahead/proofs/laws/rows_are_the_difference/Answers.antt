use Rattle.cx_look_ahead.proofs.AheadLemmas.{rows_are_decided, rows_are_the_difference}
use Rattle.cx_look_ahead.proofs.laws.rows_are_the_difference.Goals as goal

pub returns-clause-difference : goal.returns-clause-difference
returns-clause-difference c = rows_are_the_difference

pub returns-clause-decides : goal.returns-clause-decides
returns-clause-decides c = rows_are_decided
