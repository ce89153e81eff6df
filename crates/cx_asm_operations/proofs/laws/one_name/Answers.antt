use Rattle.cx_asm_operations.proofs.NameLemmas.{found_exactly, machine_found}
use Rattle.cx_asm_operations.proofs.laws.one_name.Goals as goal

pub returns-clause-found : goal.returns-clause-found
returns-clause-found c = found_exactly

pub returns-clause-machine : goal.returns-clause-machine
returns-clause-machine c = machine_found c.one_mnemonic.ensures
