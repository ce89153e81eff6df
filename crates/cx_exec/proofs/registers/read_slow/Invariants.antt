use Rattle.std.proofs.Common.{◌≡◌, Some, take}
use Rattle.cx_exec.specs.Registers.{words_at}
use Rattle.cx_exec.proofs.registers.read_slow.Given as goal

-- the first k words are read
abbrev pub invariant-loop-k : goal.invariant-loop-k
invariant-loop-k g l = words_at (g.S.Store.storage l.store) l.a l.k ≡ Some (take l.k l.words)
