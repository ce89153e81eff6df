use Rattle.std.proofs.Common.{◌≡◌, take, map}
use Rattle.cx_look_ahead.specs.Parts.Seen.{seen_in}
use Rattle.cx_look_ahead.proofs.writers.all_seen.Given as goal

-- the first ranges so far
abbrev pub invariant-loop-it : goal.invariant-loop-it
invariant-loop-it g l = l.seen.items ≡ map (seen_in (g.S.Store.storage l.store)) (take l.it-index l.kept)
