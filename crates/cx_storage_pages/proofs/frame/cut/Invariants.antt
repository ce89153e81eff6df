use Rattle.std.proofs.Common.{◌≡◌, ◌-◌, ◌*◌, min, length, slice_index}
use Rattle.cx_storage_pages.specs.Parts.Change.{is_within, Recounts}
use Rattle.cx_storage_pages.proofs.frame.cut.Given as goal

-- the rows of the granules so far are cut
abbrev pub invariant-loop-h : goal.invariant-loop-h
invariant-loop-h l =
    (length l.counts ≡ 256) × Recounts (is_within (l.g - 15) l.h) (λ j. min (slice_index l.initial.counts j) (16 * (l.g - j))) l.initial.counts l.counts
