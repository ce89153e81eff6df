use Rattle.std.proofs.Common.{◌≡◌, ◌≤◌, drop, length}
use Rattle.cx_look_fields.specs.Nearest.{nearest}
use Rattle.cx_look_fields.proofs.nearest.nearest.Given as goal

abbrev pub invariant-loop-left : goal.invariant-loop-left
invariant-loop-left l = (l.left ≤ length l.nears) × (l.found ≡ nearest (drop l.left l.nears))

abbrev pub decreases-loop-left : goal.decreases-loop-left
decreases-loop-left l = l.left
