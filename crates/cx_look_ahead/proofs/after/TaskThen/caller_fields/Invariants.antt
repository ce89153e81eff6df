use Rattle.std.proofs.Common.{◌≡◌, ◌≤◌, ◌++◌, length, take}
use Rattle.cx_program.specs.Levels.{all_levels}
use Rattle.cx_look_ahead.specs.After.{caller_fields}
use Rattle.cx_look_ahead.proofs.after.TaskThen.caller_fields.Given as goal

-- those of the first levels
abbrev pub invariant-loop-index : goal.invariant-loop-index
invariant-loop-index g l =
    (l.report
    ≡ l.initial.report
    ++ caller_fields l.self.sources.now l.self.programs.now.entries (g.S.Store.storage l.self.store.now) l.self.name 1 (take l.index (all_levels l.levels)))
    × (l.index ≤ length l.levels.callers)
