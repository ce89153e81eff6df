use Rattle.std.proofs.Common.{◌≡◌, ◌≤◌, ◌++◌, drop}
use Rattle.cx_look_faults.specs.Spans.{cells_from}
use Rattle.cx_look_faults.proofs.spans.cells_of.Given as goal

abbrev pub invariant-loop-i : goal.invariant-loop-i
invariant-loop-i l =
    record {
      shallow : l.depth ≤ l.i;
      goes_on : l.cells.items ++ cells_from l.cut l.depth l.i l.outs.items (drop l.i l.text) ≡ cells_from l.cut 0 0 l.outs.items l.text;
    }
