use Rattle.std.proofs.Common.{◌≡◌, ◌++◌, ◌-◌, ◌^◌}
use Rattle.cx_storage.specs.Storage.{areas_of}
use Rattle.cx_look_storage.specs.Parts.Walk.{areas_from}
use Rattle.cx_look_storage.proofs.areas.all_areas.Given as goal

abbrev pub invariant-loop-area : goal.invariant-loop-area
invariant-loop-area g l = l.areas.items ++ areas_from (g.S.Store.storage l.store) l.from ≡ areas_of (g.S.Store.storage l.store)

abbrev pub decreases-loop-area : goal.decreases-loop-area
decreases-loop-area g l = 2 ^ 24 - l.from
