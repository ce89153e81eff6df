use Rattle.std.proofs.Common.{◌≡◌, ◌++◌, drop}
use Rattle.cx_look_faults.specs.Faults.{base_lines}
use Rattle.cx_look_faults.proofs.bases.BaseLines.of.Given as goal

abbrev pub invariant-loop-item : goal.invariant-loop-item
invariant-loop-item l = l.lines.items ++ base_lines (drop l.item-index l.items) ≡ base_lines l.items
