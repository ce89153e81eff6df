use Rattle.cx_region_laws.proofs.DecideLemmas.{key_decides, program_decides, terminal_decides, transaction_decides, turn_decides}
use Rattle.cx_region_laws.specs.Facts.Alterations.{alterations_decide}
use Rattle.cx_region_laws.proofs.laws.calls_decide.Goals as goal

pub returns-clause-programs : goal.returns-clause-programs
returns-clause-programs c = program_decides c.loading_decides.ensures

pub returns-clause-transactions : goal.returns-clause-transactions
returns-clause-transactions c = transaction_decides

pub returns-clause-terminals : goal.returns-clause-terminals
returns-clause-terminals c = terminal_decides

pub returns-clause-keys : goal.returns-clause-keys
returns-clause-keys c = key_decides

pub returns-clause-turns : goal.returns-clause-turns
returns-clause-turns c = turn_decides c.half_turns_decide.ensures

pub returns-clause-alterations : goal.returns-clause-alterations
returns-clause-alterations c = alterations_decide
