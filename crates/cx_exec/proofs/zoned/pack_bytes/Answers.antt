use Rattle.std.proofs.Common.{rules}
use Rattle.cx_exec.proofs.SequenceLemmas.{filled}
use Rattle.cx_exec.proofs.zoned.pack_bytes.Goals as goal

pub loop-k-preserved : goal.loop-k-preserved
loop-k-preserved g c = filled _ _ _ _ (search rules) c.loop-k.invariant (c.packed-byte.ensures)
