use Rattle.std.proofs.Common.{◌≡◌, ◌-◌, ◌≤◌, replicate}
use Rattle.cx_storage.specs.Storage.{after_write}
use Rattle.cx_region_task.proofs.blocks.fill.Given as goal

-- the first `done` bytes are filled
abbrev pub invariant-loop-done : goal.invariant-loop-done
invariant-loop-done g l = (l.done ≤ l.len) × (g.S.Store.storage l.store ≡ after_write (g.S.Store.storage l.initial.store) l.place (replicate l.done l.byte))

abbrev pub decreases-loop-done : goal.decreases-loop-done
decreases-loop-done g l = l.len - l.done
