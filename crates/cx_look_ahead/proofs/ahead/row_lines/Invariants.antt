use Rattle.std.proofs.Common.{◌≡◌, ◌++◌, take}
use Rattle.std.specs.List.{flat_map}
use Rattle.cx_look_ahead.specs.Ahead.{changed_row_line}
use Rattle.cx_look_ahead.proofs.ahead.row_lines.Given as goal

-- the lines of the first rows so far
abbrev pub invariant-loop-row : goal.invariant-loop-row
invariant-loop-row g l = l.report ≡ l.initial.report ++ flat_map (changed_row_line l.fields l.before.shared.storage l.after.shared.storage) (take l.row-index l.rows)
