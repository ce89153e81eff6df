use Rattle.std.proofs.Common.{◌≢◌, ◌-◌, ◌<◌, ◌≤◌, ◌^◌, ℕ}
use Rattle.cx_storage.specs.Storage.{byte_at}
use Rattle.cx_look_ahead.proofs.rows.end_of_row.Given as goal

-- so far each byte differs
abbrev pub invariant-loop-at : goal.invariant-loop-at
invariant-loop-at g l =
    (l.from < l.at) × (l.at ≤ 2 ^ 24)
    × ((a : ℕ) → l.from ≤ a → a < l.at → byte_at (g.S.Store.storage l.before) a ≢ byte_at (g.S.Store.storage l.after) a)

abbrev pub decreases-loop-at : goal.decreases-loop-at
decreases-loop-at g l = 2 ^ 24 - l.at
