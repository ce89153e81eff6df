use Rattle.std.proofs.Common.{◌≡◌, ℕ, ◌<◌, Some}
use Rattle.cx_exec.specs.Translation.{table_byte}
use Rattle.cx_exec.proofs.translation.first_found.Given as goal

-- the table's bytes so far are zero
abbrev pub invariant-loop-k : goal.invariant-loop-k
invariant-loop-k g l = (j : ℕ) → j < l.k → table_byte (g.S.Store.storage l.store) l.at.a1 l.at.a2 j ≡ Some 0
