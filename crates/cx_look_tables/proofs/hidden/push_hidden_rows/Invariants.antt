use Rattle.std.proofs.Common.{◌≡◌, ◌+◌, ◌++◌, drop}
use Rattle.cx_look_tables.specs.Hidden.{hidden_rows_from}
use Rattle.cx_look_tables.proofs.hidden.push_hidden_rows.Given as goal

abbrev pub invariant-loop-i : goal.invariant-loop-i
invariant-loop-i l = l.report ++ hidden_rows_from (l.i + 1) (drop l.i l.rows) ≡ l.initial.report ++ hidden_rows_from 1 l.rows
