use Rattle.std.proofs.Common.{◌≡◌, arith}
use Rattle.cx_storage_pages.proofs.ReachLemmas.{counted_parts}
use Rattle.cx_storage_pages.proofs.frame.count.Goals as goal

pub returns : goal.returns
returns c =
    let done : c.loop-g.g ≡ c.min-none.result = omega (arith, c.loop-g-test.false, c.loop-g.auto.g-end) in
    counted_parts c.args.counts.now c.fill.new.counts c.loop-g.counts c.fill-2.new.counts c.args.first c.min-long.result c.min-none.result c.args.end c.args.to
    (omega arith) (omega arith) (omega arith) (λ h low high. omega arith) (λ h low high. omega arith) c.fill.ensures (λ h. rw done at (c.loop-g.invariant.1 h)) c.fill-2.ensures
