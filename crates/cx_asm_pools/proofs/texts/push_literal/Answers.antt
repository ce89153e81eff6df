use Rattle.cx_asm_pools.proofs.TextLemmas.{insert_by_text}
use Rattle.cx_asm_pools.proofs.texts.push_literal.Goals as goal

pub returns : goal.returns
returns c = record { put = rw c.in_ok-insert.ensures.entries (insert_by_text c.args.table.now.entries c.args.text c.args.literal c.requires) }
