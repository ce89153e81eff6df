use Rattle.std.proofs.Common.{◌≡◌, ◌≤◌, ◌^◌, ◌++◌, take}
use Rattle.cx_base.specs.Shared.{values}
use Rattle.cx_storage.specs.Storage.{areas_of}
use Rattle.cx_storage_snapshot.specs.Parts.Copies.{areas_from}
use Rattle.cx_storage_snapshot.proofs.writing.has_areas.Given as goal

-- the areas before that address are those of the copies so far
abbrev pub invariant-loop-copy : goal.invariant-loop-copy
invariant-loop-copy g l =
    (l.from ≤ 2 ^ 24)
    × (areas_of (take l.copy-index (values l.copies)) ++ areas_of (areas_from l.from (g.S.Store.storage l.store)) ≡ areas_of (g.S.Store.storage l.store))
