use Rattle.cx_base.proofs.CommandTableLemmas.{command_by_function, command_by_name}
use Rattle.cx_base.proofs.laws.commands_are_found.Goals as goal

pub returns-clause-by_function : goal.returns-clause-by_function
returns-clause-by_function c = command_by_function

pub returns-clause-by_name : goal.returns-clause-by_name
returns-clause-by_name c = command_by_name
