use Rattle.cx_base.proofs.CommandTableLemmas.{found_by_function}
use Rattle.cx_base.proofs.commands.Command.from_function.Goals as goal

pub returns-clause-exact : goal.returns-clause-exact
returns-clause-exact c = rw c.with_function.ensures (found_by_function c.args.function)
