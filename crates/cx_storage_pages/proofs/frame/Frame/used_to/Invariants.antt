use Rattle.std.proofs.Common.{◌≡◌, ◌≤◌, ◌<◌, ◌*◌, ◌-◌, ℕ, true, is_some}
use Rattle.cx_storage_pages.specs.Pages.{frame_byte}
use Rattle.cx_storage_pages.proofs.frame.Frame.used_to.Given as goal

-- the granules so far have bytes
abbrev pub invariant-used : goal.invariant-used
invariant-used l = (l.g < l.next) × (l.next ≤ 256) × ((j : ℕ) → l.g ≤ j → j < l.next → is_some (frame_byte l.self (j * 16)) ≡ true)

abbrev pub decreases-used : goal.decreases-used
decreases-used l = 256 - l.next
