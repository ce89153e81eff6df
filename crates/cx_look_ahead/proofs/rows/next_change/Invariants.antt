use Rattle.std.proofs.Common.{◌-◌, ◌≤◌, ◌^◌}
use Rattle.cx_look_ahead.specs.Parts.Next.{AreSame}
use Rattle.cx_look_ahead.proofs.rows.next_change.Given as goal

-- so far nothing differs
abbrev pub invariant-loop-at : goal.invariant-loop-at
invariant-loop-at g l = (l.from ≤ l.at) × (l.at ≤ 2 ^ 24) × AreSame (g.S.Store.storage l.before) (g.S.Store.storage l.after) l.from l.at

abbrev pub decreases-loop-at : goal.decreases-loop-at
decreases-loop-at g l = 2 ^ 24 - l.at
