use Rattle.std.proofs.Common.{◌≡◌, ℕ, ◌<◌, bit_xor, length, slice_index}
use Rattle.cx_exec.proofs.strings.join_bytes.Given as goal

-- the first bytes are joined
abbrev pub invariant-loop-k : goal.invariant-loop-k
invariant-loop-k l =
    (length l.new ≡ length l.initial.new)
    × ((j : ℕ) → j < l.k → slice_index l.new j ≡ bit_xor (slice_index l.first j) (slice_index l.second j))
