use Rattle.std.proofs.Common.{◌≡◌}
use Rattle.cx_look_ahead.specs.Ahead.{bytes_word}
use Rattle.cx_look_ahead.proofs.bytes.bytes_word.Given as goal

-- the first bytes so far
abbrev pub invariant-loop-k : goal.invariant-loop-k
invariant-loop-k g l = l.text.items ≡ bytes_word (g.S.Store.storage l.store) l.at l.k
