use Rattle.std.proofs.Common.{ℕ, ◌<◌, ◌≤◌, ◌-◌, ◌/◌, slice_index}
use Rattle.cx_storage_pages.proofs.frame.Frame.has_each.Given as goal

-- the granules so far are full
abbrev pub invariant-full : goal.invariant-full
invariant-full l = (l.from / 16 ≤ l.g) × ((j : ℕ) → l.from / 16 ≤ j → j < l.g → 16 ≤ slice_index l.self.counts j)

abbrev pub decreases-full : goal.decreases-full
decreases-full l = l.last - l.g
