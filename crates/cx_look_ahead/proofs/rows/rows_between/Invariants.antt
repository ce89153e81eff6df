use Rattle.std.proofs.Common.{◌-◌, ◌≤◌, ◌^◌}
use Rattle.std.specs.List.{AllByRecursion}
use Rattle.cx_look_ahead.specs.Rows.{row_end}
use Rattle.cx_look_ahead.proofs.RowLemmas.{AreFirst}
use Rattle.cx_look_ahead.proofs.rows.rows_between.Given as goal

-- the first rows so far
abbrev pub invariant-loop-row : goal.invariant-loop-row
invariant-loop-row g l =
    (l.from ≤ 2 ^ 24) × AllByRecursion (λ row. row_end row ≤ 2 ^ 24) l.rows.items
    × AreFirst (g.S.Store.storage l.before) (g.S.Store.storage l.after) l.from l.rows.items

abbrev pub decreases-loop-row : goal.decreases-loop-row
decreases-loop-row g l = 2 ^ 24 - l.from
