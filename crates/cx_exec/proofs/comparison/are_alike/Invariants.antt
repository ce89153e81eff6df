use Rattle.std.proofs.Common.{◌≡◌, ℕ, ◌+◌, ◌<◌, ◌≤◌, true, slice_index}
use Rattle.cx_exec.proofs.comparison.are_alike.Given as goal

-- whether they are the same so far
abbrev pub invariant-loop-k : goal.invariant-loop-k
invariant-loop-k l =
    (l.same ≡ true → (j : ℕ) → l.at ≤ j → j < l.at + l.k → slice_index l.first j ≡ slice_index l.second j)
    × (((j : ℕ) → l.at ≤ j → j < l.at + l.k → slice_index l.first j ≡ slice_index l.second j) → l.same ≡ true)
