use Rattle.cx_asm_pools.specs.Facts.Literals.{pool_more}
use Rattle.cx_asm_pools.proofs.laws.texts_are_pooled_once.Goals as goal

pub returns-clause-more : goal.returns-clause-more
returns-clause-more c = pool_more
