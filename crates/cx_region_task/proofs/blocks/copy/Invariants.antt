use Rattle.std.proofs.Common.{◌≡◌, ◌-◌, ◌≤◌, take}
use Rattle.cx_region_state.specs.Areas.{bytes_in}
use Rattle.cx_storage.specs.Storage.{after_write}
use Rattle.cx_region_task.proofs.blocks.copy.Given as goal

-- the first `done` bytes are copied
abbrev pub invariant-loop-done : goal.invariant-loop-done
invariant-loop-done g l =
    (l.done ≤ l.len)
    × (g.S.Store.storage l.store
    ≡ after_write (g.S.Store.storage l.initial.store) l.copying.to (take l.done (bytes_in (g.S.Store.storage l.initial.store) l.copying.from)))

abbrev pub decreases-loop-done : goal.decreases-loop-done
decreases-loop-done g l = l.len - l.done
