use Rattle.cx_asm_pools.proofs.TextLemmas.{insert_by_text}
use Rattle.cx_asm_pools.proofs.texts.push_used.Goals as goal

pub returns-clause-put : goal.returns-clause-put
returns-clause-put c = rw c.in_ok-insert.ensures.entries (insert_by_text c.args.table.now.entries c.args.text c.args.used c.requires)
