use Rattle.std.proofs.Common.{◌≡◌, ◌≤◌, ◌++◌, [], drop}
use Rattle.std.specs.List.{slice_range}
use Rattle.cx_translate.specs.Pieces.{pieces_from}
use Rattle.cx_translate.proofs.pieces.pieces_in.Given as goal

abbrev pub invariant-loop-i : goal.invariant-loop-i
invariant-loop-i l =
    record {
      shallow : l.depth ≤ l.i;
      begun : l.start ≤ l.i;
      goes_on : l.pieces.items ++ pieces_from l.depth (slice_range l.text l.start l.i) (drop l.i l.marks) (drop l.i l.text)
          ≡ pieces_from 0 [] l.marks l.text;
    }
