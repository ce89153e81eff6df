use Rattle.std.proofs.Common.{◌≡◌, ◌++◌, drop, true}
use Rattle.cx_look_faults.specs.Spans.{zeros_from}
use Rattle.cx_look_faults.proofs.spans.with_zeros.Given as goal

abbrev pub invariant-loop-i : goal.invariant-loop-i
invariant-loop-i l =
    l.text.items ++ zeros_from l.kept l.is_new l.i (drop l.i l.cells) ≡ zeros_from l.kept true 0 l.cells
