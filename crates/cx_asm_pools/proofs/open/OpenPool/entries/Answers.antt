use Rattle.cx_asm_pools.proofs.ListLemmas.{entry_more}
use Rattle.cx_asm_pools.proofs.open.OpenPool.entries.Goals as goal

pub loop-i-preserved : goal.loop-i-preserved
loop-i-preserved c =
    entry_more c.self.inside.literals.entries c.loop-i.list.items c.push.new.self.items c.args.self.now c.loop-i.i (c.in-Some.text.now, c.in-Some.used.now)
    c.in-Some.ensures.entry c.self.view_is c.in_ok-push.ensures.items c.loop-i.invariant
