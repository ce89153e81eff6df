use Rattle.std.proofs.Common.{◌≡◌, take}
use Rattle.cx_base.specs.Shared.{values}
use Rattle.cx_storage_snapshot.proofs.writing.put_areas.Given as goal

-- those so far are put in
abbrev pub invariant-loop-copy : goal.invariant-loop-copy
invariant-loop-copy g l = g.S.Store.storage l.store ≡ take l.copy-index (values l.copies)
