use Rattle.std.proofs.Common.{◌≡◌, arith}
use Rattle.cx_storage_pages.proofs.FrameLemmas.{runs_free, runs_taken}
use Rattle.cx_storage_pages.proofs.frame.summed.Goals as goal
use Rattle.cx_storage_pages.proofs.frame.summed.Goals.{then-counts-k-eq0, else-counts-k-eq0}

pub loop-k-preserved : goal.loop-k-preserved
loop-k-preserved c = elim c.if-counts-k-eq0.branch [
  | then-counts-k-eq0 w ↦ rw w.run-is (runs_free c.args.counts.now c.loop-k.k c.loop-k.longest c.loop-k.run c.max-longest.result c.loop-k.invariant w.if-counts-k-eq0.true (rw w.run-is at c.max-longest.ensures))
  | else-counts-k-eq0 w ↦
      let most = rw w.run-is at c.max-longest.ensures in
      let same : c.max-longest.result ≡ c.loop-k.longest = omega (arith, most) in
      rw (w.run-is, same) (runs_taken c.args.counts.now c.loop-k.k c.loop-k.longest c.loop-k.run c.loop-k.invariant w.if-counts-k-eq0.false)
]

pub returns : goal.returns
returns c =
    let end : c.loop-k.k ≡ 256 = omega (arith, c.loop-k-test.false, c.loop-k.auto.k-end) in
    rw end at c.loop-k.invariant
