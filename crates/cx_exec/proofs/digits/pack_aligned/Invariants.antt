use Rattle.std.proofs.Common.{◌≡◌, ℕ, ◌+◌, ◌*◌, ◌%◌, ◌<◌, slice_index}
use Rattle.cx_exec.proofs.digits.pack_aligned.Given as goal

-- the first j bytes are made
abbrev pub invariant-loop-j : goal.invariant-loop-j
invariant-loop-j l = (k : ℕ) → k < l.j → slice_index l.new k ≡ slice_index l.zoned (2 * k + 1) % 16 * 16 + slice_index l.zoned (2 * k + 2) % 16
