use Rattle.std.proofs.Common.{◌≡◌, ℕ, ◌<◌, slice_index}
use Rattle.cx_exec.proofs.translation.look_up.Given as goal

-- the first k bytes are looked up
abbrev pub invariant-loop-k : goal.invariant-loop-k
invariant-loop-k l = (j : ℕ) → j < l.k → (slice_index l.argument j < 256) × (slice_index l.new j ≡ slice_index l.table (slice_index l.argument j))
