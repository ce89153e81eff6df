use Rattle.std.proofs.Common.{◌≡◌, ℕ, ◌<◌, ◌≤◌, ◌-◌, length, slice_index}
use Rattle.cx_exec.proofs.comparison.alike_front.Given as goal

-- the strings are alike so far
abbrev pub invariant-alike : goal.invariant-alike
invariant-alike l = (l.at ≤ length l.first) × ((j : ℕ) → j < l.at → slice_index l.first j ≡ slice_index l.second j)

abbrev pub decreases-alike : goal.decreases-alike
decreases-alike l = length l.first - l.at

abbrev pub invariant-far : goal.invariant-far
invariant-far l = (l.at ≤ length l.first) × ((j : ℕ) → j < l.at → slice_index l.first j ≡ slice_index l.second j)

abbrev pub decreases-far : goal.decreases-far
decreases-far l = length l.first - l.at
