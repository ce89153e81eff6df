use Rattle.std.proofs.Common.{◌≤◌, ◌+◌, ◌-◌, ◌/◌, None}
use Rattle.cx_storage_pages.specs.Parts.Change.{Fills}
use Rattle.cx_storage_pages.specs.Pages.{byte_in_pages}
use Rattle.cx_storage_pages.proofs.directory.clear_in.Given as goal

-- the granules so far are done
abbrev pub invariant-loop-g : goal.invariant-loop-g
invariant-loop-g l =
    (l.start / 16 ≤ l.g) × (l.g ≤ (l.end + 15) / 16) × Fills (l.start / 16) l.g (λ _. None) (byte_in_pages l.initial.pages.items) (byte_in_pages l.pages.items)

abbrev pub decreases-loop-g : goal.decreases-loop-g
decreases-loop-g l = (l.end + 15) / 16 - l.g
