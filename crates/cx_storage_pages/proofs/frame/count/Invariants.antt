use Rattle.std.proofs.Common.{◌≡◌, ◌-◌, ◌*◌, min, length}
use Rattle.cx_storage_pages.specs.Parts.Change.{is_within, Recounts}
use Rattle.cx_storage_pages.proofs.frame.count.Given as goal

-- the granules so far are counted
abbrev pub invariant-loop-g : goal.invariant-loop-g
invariant-loop-g l =
    (length l.counts ≡ 256) × Recounts (is_within l.long l.g) (λ h. min (l.to - 16 * h) 255) l.initial.counts l.counts
