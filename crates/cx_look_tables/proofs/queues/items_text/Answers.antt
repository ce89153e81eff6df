use Rattle.std.proofs.Common.{subst, ◌<◌}
use Rattle.cx_look_tables.proofs.ItemLemmas.{one_more}
use Rattle.cx_look_tables.proofs.queues.items_text.Goals as goal

-- src/queues.rt:66:5
pub loop-i-preserved : goal.loop-i-preserved
loop-i-preserved c =
    one_more c.args.queue.now c.loop-i.i _ _ _ (subst (λ n. c.loop-i.i < n) c.count-i-end.ensures c.loop-i-test.true)
    c.in_ok-item_there.ensures c.loop-i.invariant
