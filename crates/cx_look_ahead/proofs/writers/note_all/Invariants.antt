use Rattle.std.proofs.Common.{◌≡◌, ◌++◌, drop, take, map}
use Rattle.cx_look_ahead.specs.Parts.Seen.{noted}
use Rattle.cx_look_ahead.proofs.writers.note_all.Given as goal

-- it is noted at the first ranges so far
abbrev pub invariant-loop-it : goal.invariant-loop-it
invariant-loop-it g l =
    l.it-items ≡ map (noted (g.S.Store.storage l.store) l.at) (take l.it-index l.fn.seen.items) ++ drop l.it-index l.fn.seen.items
