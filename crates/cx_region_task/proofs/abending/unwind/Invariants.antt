use Rattle.std.proofs.Common.{◌≡◌, ◌-◌}
use Rattle.cx_region_task.specs.Abends.{unwound}
use Rattle.cx_region_task.proofs.abending.unwind.Given as goal

-- the levels that are still to end leave what all of them leave
abbrev pub invariant-loop-level : goal.invariant-loop-level
invariant-loop-level g l =
    unwound (l.count - l._level) l.levels.callers l.levels.current (g.S.Store.storage l.store)
    ≡ unwound l.count l.initial.levels.callers l.initial.levels.current (g.S.Store.storage l.initial.store)
