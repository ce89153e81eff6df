use Rattle.std.proofs.Common.{◌≡◌, ◌≤◌, ◌++◌, ◌-◌, drop, length}
use Rattle.cx_source.specs.Lines.{is_marked}
use Rattle.cx_source.specs.Statements.{written_on}
use Rattle.cx_source.proofs.statements.written.Given as goal

abbrev pub invariant-loop-marked : goal.invariant-loop-marked
invariant-loop-marked l =
    record {
      within : l.next ≤ length l.more.items;
      goes_on : l.written.items ++ written_on l.marked (drop l.next l.more.items) ≡ l.after ++ written_on (is_marked l.first) l.more.items;
    }

abbrev pub decreases-loop-marked : goal.decreases-loop-marked
decreases-loop-marked l = length l.more.items - l.next
