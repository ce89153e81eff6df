use Rattle.std.proofs.Common.{◌≡◌, ◌≤◌, ◌<◌, ℕ, slice_index}
use Rattle.cx_storage_pages.proofs.frame.Frame.free_to.Given as goal

-- the granules so far have no byte
abbrev pub invariant-loop-k : goal.invariant-loop-k
invariant-loop-k l = (j : ℕ) → l.g ≤ j → j < l.k → slice_index l.self.counts j ≡ 0
