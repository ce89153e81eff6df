use Rattle.std.proofs.Common.{◌≡◌, take}
use Rattle.std.specs.List.{flat_map}
use Rattle.cx_look_ahead.specs.Parts.Seen.{seen_line}
use Rattle.cx_look_ahead.proofs.watching.Done.seen_lines.Given as goal

-- the lines of the first ranges so far
abbrev pub invariant-loop-it : goal.invariant-loop-it
invariant-loop-it g l = l.report ≡ flat_map (seen_line l.self (g.S.Store.storage l.left)) (take l.it-index l.seen)
