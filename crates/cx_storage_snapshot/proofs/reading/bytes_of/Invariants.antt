use Rattle.std.proofs.Common.{◌≡◌, ◌+◌, ◌-◌, ◌≤◌, Some}
use Rattle.cx_storage.specs.Storage.{span, end_of}
use Rattle.cx_storage_snapshot.proofs.reading.bytes_of.Given as goal

-- the bytes so far are the area's first
abbrev pub invariant-loop-at : goal.invariant-loop-at
invariant-loop-at g l =
    (l.area.start ≤ l.at) × (l.at ≤ end_of l.area) × (span (g.S.Store.storage l.store) l.area.start (l.at - l.area.start) ≡ Some l.bytes.items)

abbrev pub decreases-loop-at : goal.decreases-loop-at
decreases-loop-at g l = l.area.start + l.area.len - l.at
