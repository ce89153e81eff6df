use Rattle.std.proofs.Common.{◌≡◌, ℕ, ◌+◌, ◌*◌, ◌/◌, ◌%◌, ◌<◌, slice_index}
use Rattle.cx_exec.proofs.digits.unpack_aligned.Given as goal

-- the first i pairs of bytes are made
abbrev pub invariant-loop-i : goal.invariant-loop-i
invariant-loop-i l =
    ((k : ℕ) → k < l.i → slice_index l.new (2 * k) ≡ 0xF0 + slice_index l.packed (23 + k) % 16)
    × ((k : ℕ) → k < l.i → slice_index l.new (2 * k + 1) ≡ 0xF0 + slice_index l.packed (24 + k) / 16)
