use Rattle.std.proofs.Common.{◌≡◌, ◌≤◌, ◌+◌, ◌-◌, ◌/◌, ℕ}
use Rattle.cx_storage_pages.specs.Parts.Change.{Fills, zero_to}
use Rattle.cx_storage_pages.specs.Parts.Directory.{has_page}
use Rattle.cx_storage_pages.specs.Pages.{byte_in_pages}
use Rattle.cx_storage_pages.proofs.directory.zero_in.Given as goal

-- the granules so far are done
abbrev pub invariant-loop-g : goal.invariant-loop-g
invariant-loop-g l =
    (l.start / 16 ≤ l.g) × (l.g ≤ (l.end + 15) / 16) × Fills (l.start / 16) l.g (zero_to l.end) (byte_in_pages l.initial.pages.items) (byte_in_pages l.pages.items)
    × ((i : ℕ) → has_page l.pages.items i ≡ has_page l.initial.pages.items i)

abbrev pub decreases-loop-g : goal.decreases-loop-g
decreases-loop-g l = (l.end + 15) / 16 - l.g
