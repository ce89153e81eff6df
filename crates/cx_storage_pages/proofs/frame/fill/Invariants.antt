use Rattle.std.proofs.Common.{◌≡◌, length}
use Rattle.cx_storage_pages.specs.Parts.Change.{is_within, Recounts}
use Rattle.cx_storage_pages.proofs.frame.fill.Given as goal

-- the counts so far are the number
abbrev pub invariant-loop-g : goal.invariant-loop-g
invariant-loop-g l =
    (length l.counts ≡ 256) × Recounts (is_within l.from l.g) (λ _. l.number) l.initial.counts l.counts
