use Rattle.std.proofs.Common.{◌≡◌, ◌++◌, drop, take}
use Rattle.cx_base.specs.Shared.{values}
use Rattle.cx_storage_snapshot.proofs.writing.write_areas.Given as goal

-- the areas so far have the bytes of their copies, the others those that they had
abbrev pub invariant-loop-copy : goal.invariant-loop-copy
invariant-loop-copy g l = g.S.Store.storage l.store ≡ take l.copy-index (values l.copies) ++ drop l.copy-index (g.S.Store.storage l.initial.store)
