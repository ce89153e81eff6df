use Rattle.std.proofs.Common.{◌≡◌, drop}
use Rattle.std.specs.Prelude.{slice_get}
use Rattle.cx_orders.specs.Moves.{keys_of}
use Rattle.cx_orders.proofs.moves.key_of.Given as goal

abbrev pub invariant-loop-key : goal.invariant-loop-key
invariant-loop-key l = slice_get (keys_of (drop l.key-index l.keys) l.name) l.left ≡ slice_get (keys_of l.keys l.name) l.came
