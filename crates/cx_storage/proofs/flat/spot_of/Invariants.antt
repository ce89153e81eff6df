use Rattle.std.proofs.Common.{◌≡◌, ◌+◌, drop}
use Rattle.cx_storage.specs.Parts.Flat.{spot}
use Rattle.cx_storage.proofs.flat.spot_of.Given as goal

-- all areas passed so far come before
abbrev pub invariant-loop-i : goal.invariant-loop-i
invariant-loop-i l = spot l.start (drop l.i l.blocks.items) + l.i ≡ spot l.start l.blocks.items
