use Rattle.cx_region_laws.proofs.ExitLemmas.{cancel_takes_none, exits_are_nearest, exits_take_abends}
use Rattle.cx_region_laws.proofs.TakenLemmas.{half_turns_take_exits}
use Rattle.cx_region_laws.proofs.laws.the_nearest_exit_takes_an_abend.Goals as goal

pub returns-clause-nearest : goal.returns-clause-nearest
returns-clause-nearest c = exits_are_nearest

pub returns-clause-taken : goal.returns-clause-taken
returns-clause-taken c = exits_take_abends

pub returns-clause-cancel : goal.returns-clause-cancel
returns-clause-cancel c = cancel_takes_none

pub returns-clause-half_turn : goal.returns-clause-half_turn
returns-clause-half_turn c = half_turns_take_exits
