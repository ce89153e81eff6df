use Rattle.std.proofs.Common.{◌≡◌, take}
use Rattle.std.specs.List.{flat_map}
use Rattle.cx_look_ahead.specs.Parts.Seen.{if_changed}
use Rattle.cx_look_ahead.proofs.watching.Done.changed.Given as goal

-- those of the first ranges so far
abbrev pub invariant-loop-it : goal.invariant-loop-it
invariant-loop-it g l = l.changed.items ≡ flat_map (if_changed l.self.storage) (take l.it-index l.kept)
