use Rattle.std.proofs.Common.{◌≡◌, ℕ, ◌<◌, is_some, true}
use Rattle.cx_exec.specs.Translation.{table_byte}
use Rattle.cx_exec.proofs.translation.has_table.Given as goal

-- the bytes so far are there
abbrev pub invariant-loop-k : goal.invariant-loop-k
invariant-loop-k g l = (j : ℕ) → j < l.k → is_some (table_byte (g.S.Store.storage l.store) l.at.a1 l.at.a2 j) ≡ true
