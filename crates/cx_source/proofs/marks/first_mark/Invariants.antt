use Rattle.std.proofs.Common.{◌≡◌, ◌≤◌, ◌+◌, drop}
use Rattle.cx_source.specs.Marks.{first_from, first_mark}
use Rattle.cx_source.proofs.marks.first_mark.Given as goal

abbrev pub invariant-loop-i : goal.invariant-loop-i
invariant-loop-i l =
    record {
      shallow : l.scan.depth ≤ l.i;
      goes_on : l.i + first_from l.mark l.scan (drop l.i l.text) ≡ first_mark l.mark l.text;
    }
