use Rattle.std.proofs.Common.{ℕ, ◌<◌, List, [], length, drop-cons, arith, Bor}
use Rattle.cx_asm_pools.proofs.TextLemmas.{not_after}
use Rattle.cx_asm_pools.specs.Pools.{by_text}
use Rattle.cx_asm_pools.specs.declared.open.Used.{Used}
use Rattle.cx_asm_pools.proofs.closed.put_all.Goals as goal

pub push_literal-requires : goal.push_literal-requires
push_literal-requires c =
    let within : c.loop-entry.entry-index < length c.args.list.now = omega arith in
    let one = drop-cons {A = Bor (List ℕ) × Used} c.args.list.now c.loop-entry.entry-index (record { ref_ptr = (0, 0); now = [] }, record { size = 0; user = 0 }) within in
    not_after (by_text c.loop-entry.table.entries) _ _ (rw one at c.loop-entry.invariant.once)
