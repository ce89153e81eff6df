use Rattle.std.proofs.Common.{◌≡◌, ◌++◌, ◌-◌, ◌≤◌, ◌^◌}
use Rattle.cx_base.specs.Shared.{values}
use Rattle.cx_storage_snapshot.specs.Parts.Copies.{areas_from}
use Rattle.cx_storage_snapshot.proofs.snapshot.copies.Given as goal

-- what is copied, and what is left
abbrev pub invariant-loop-area : goal.invariant-loop-area
invariant-loop-area g l = (l.from ≤ 2 ^ 24) × (values l.copies.items ++ areas_from l.from (g.S.Store.storage l.store) ≡ g.S.Store.storage l.store)

abbrev pub decreases-loop-area : goal.decreases-loop-area
decreases-loop-area g l = 2 ^ 24 - l.from
