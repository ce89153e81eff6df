use Rattle.std.proofs.Common.{◌≡◌, take}
use Rattle.cx_exec.specs.Sequence.{stored_by}
use Rattle.cx_exec.specs.Zoned.{packed_byte}
use Rattle.cx_exec.proofs.zoned.pack_bytes.Given as goal

-- the first k bytes are made
abbrev pub invariant-loop-k : goal.invariant-loop-k
invariant-loop-k g l = take l.k l.new ≡ stored_by (packed_byte (g.S.Store.storage l.store) l.ends.e1 l.ends.n2 l.ends.e2) l.k
