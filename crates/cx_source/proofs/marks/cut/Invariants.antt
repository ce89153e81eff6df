use Rattle.std.proofs.Common.{◌≡◌, ◌≤◌, ◌++◌, drop, map}
use Rattle.std.specs.List.{slice_range}
use Rattle.cx_source.specs.Marks.{parts, parts_from}
use Rattle.cx_source.proofs.marks.cut.Given as goal

abbrev pub invariant-loop-i : goal.invariant-loop-i
invariant-loop-i l =
    record {
      shallow : l.scan.depth ≤ l.i;
      begun : l.start ≤ l.i;
      goes_on : map (λ part. part.now) l.found.items ++ parts_from l.mark l.scan (slice_range l.text l.start l.i) (drop l.i l.text)
          ≡ parts l.mark l.text;
    }
