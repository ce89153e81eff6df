use Rattle.std.proofs.Common.{◌≡◌, take, map}
use Rattle.cx_look_ahead.specs.Watching.{kept_in}
use Rattle.cx_look_ahead.proofs.watching.Watches.kept.Given as goal

-- the first ranges so far
abbrev pub invariant-loop-range : goal.invariant-loop-range
invariant-loop-range g l = l.kept.items ≡ map (kept_in (g.S.Store.storage l.store)) (take l.range-index l.self)
