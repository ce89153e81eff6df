use Rattle.std.proofs.Common.{◌≤◌, Some, max, slice_get}
use Rattle.cx_storage_pages.specs.Parts.Change.{is_within, Changes}
use Rattle.cx_storage_pages.proofs.frame.zero_bytes.Given as goal

-- the bytes so far are zero, and all others as before
abbrev pub invariant-loop-k : goal.invariant-loop-k
invariant-loop-k l =
    (l.k ≤ max l.from l.to) × Changes (is_within l.from l.k) (λ _. Some 0) (slice_get l.initial.bytes) (slice_get l.bytes)
