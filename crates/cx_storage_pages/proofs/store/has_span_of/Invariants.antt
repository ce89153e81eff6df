use Rattle.std.proofs.Common.{◌≡◌, ◌<◌, ◌^◌, is_some}
use Rattle.cx_storage.specs.Storage.{span}
use Rattle.cx_storage_pages.specs.Parts.Shown.{stored}
use Rattle.cx_storage_pages.proofs.store.has_span_of.Given as goal

-- the bytes tested so far are there
abbrev pub invariant-loop-left : goal.invariant-loop-left
invariant-loop-left l =
    (l.at < 2 ^ 24) × (is_some (span (stored l.areas l.pages) l.at l.left) ≡ is_some (span (stored l.areas l.pages) l.a l.n))

abbrev pub decreases-loop-left : goal.decreases-loop-left
decreases-loop-left l = l.left
