use Rattle.std.proofs.Common.{◌≡◌, ◌≤◌, ◌++◌, drop}
use Rattle.cx_source.specs.Marks.{outside_apostrophes, outside_from}
use Rattle.cx_source.proofs.marks.outside.Given as goal

abbrev pub invariant-loop-i : goal.invariant-loop-i
invariant-loop-i l =
    record {
      shallow : l.scan.depth ≤ l.i;
      goes_on : l.found.items ++ outside_from l.scan (drop l.i l.text) ≡ outside_apostrophes l.text;
    }
