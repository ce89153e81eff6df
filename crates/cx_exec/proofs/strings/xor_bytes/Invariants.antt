use Rattle.std.proofs.Common.{◌≡◌, take}
use Rattle.cx_exec.specs.Sequence.{stored_by}
use Rattle.cx_exec.specs.Strings.{xored_byte}
use Rattle.cx_exec.proofs.strings.xor_bytes.Given as goal

-- the first k bytes are made
abbrev pub invariant-loop-k : goal.invariant-loop-k
invariant-loop-k g l = take l.k l.new ≡ stored_by (xored_byte (g.S.Store.storage l.store) l.at.a1 l.at.a2) l.k
