use Rattle.std.proofs.Common.{◌≡◌, ◌+◌, ◌++◌, drop, map}
use Rattle.std.specs.List.{enumerate_from}
use Rattle.cx_look_faults.specs.Parts.Names.{position_at}
use Rattle.cx_look_faults.proofs.positions.push_written.Given as goal

abbrev pub invariant-loop-c : goal.invariant-loop-c
invariant-loop-c l =
    record {
      at : l.column ≡ l.first + l.c-index;
      goes_on : l.positions.items ++ map (position_at l.item.line) (enumerate_from l.column (drop l.c-index l.text))
          ≡ l.initial.positions.items ++ map (position_at l.item.line) (enumerate_from l.first l.text);
    }
