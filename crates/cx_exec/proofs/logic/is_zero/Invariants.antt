use Rattle.std.proofs.Common.{◌≢◌, ℕ, ◌<◌, ◌≤◌, slice_index}
use Rattle.cx_exec.specs.Numbers.{number_of}
use Rattle.cx_exec.proofs.logic.is_zero.Given as goal

-- no byte so far is higher, and where the highest isn't zero, the number isn't
abbrev pub invariant-loop-k : goal.invariant-loop-k
invariant-loop-k l = ((j : ℕ) → j < l.k → slice_index l.bytes j ≤ l.highest) × (l.highest ≢ 0 → number_of l.bytes ≢ 0)
