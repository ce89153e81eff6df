use Rattle.std.proofs.Common.{◌≡◌, ℕ, ◌<◌, slice_index}
use Rattle.cx_exec.proofs.translation.first_in.Given as goal

-- the table's bytes so far are zero
abbrev pub invariant-loop-k : goal.invariant-loop-k
invariant-loop-k l = (j : ℕ) → j < l.k → (slice_index l.argument j < 256) × (slice_index l.table (slice_index l.argument j) ≡ 0)
