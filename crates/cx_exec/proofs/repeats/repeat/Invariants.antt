use Rattle.std.proofs.Common.{length, ◌-◌, ◌≡◌, ℕ, ◌<◌, ◌≤◌, slice_index}
use Rattle.cx_exec.proofs.RepeatLemmas.{Repeats}
use Rattle.cx_exec.proofs.repeats.repeat.Given as goal

-- the first `filled` bytes of the buffer repeat its front
abbrev pub invariant-loop-filled : goal.invariant-loop-filled
invariant-loop-filled l =
    (length l.new ≡ length l.initial.new) × (l.period ≤ l.filled) × Repeats l.new l.period l.filled
    × ((k : ℕ) → k < l.period → slice_index l.new k ≡ slice_index l.initial.new k)

abbrev pub decreases-loop-filled : goal.decreases-loop-filled
decreases-loop-filled l = length l.initial.new - l.filled
