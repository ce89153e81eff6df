use Rattle.cx_asm_pools.specs.Facts.Literals.{no_pool_stands, pool_stands}
use Rattle.cx_asm_pools.proofs.laws.literals_stand_apart.Goals as goal

pub returns-clause-placed : goal.returns-clause-placed
returns-clause-placed c = pool_stands

pub returns-clause-none : goal.returns-clause-none
returns-clause-none c = no_pool_stands
