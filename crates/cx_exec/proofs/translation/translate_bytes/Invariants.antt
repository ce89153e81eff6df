use Rattle.std.proofs.Common.{◌≡◌, take}
use Rattle.cx_exec.specs.Sequence.{stored_by}
use Rattle.cx_exec.specs.Translation.{translated_byte}
use Rattle.cx_exec.proofs.translation.translate_bytes.Given as goal

-- the first k bytes are made
abbrev pub invariant-loop-k : goal.invariant-loop-k
invariant-loop-k g l = take l.k l.new ≡ stored_by (translated_byte (g.S.Store.storage l.store) l.at.a1 l.at.a2) l.k
