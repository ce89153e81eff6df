use Rattle.std.proofs.Common.{◌≡◌, ◌++◌}
use Rattle.std.specs.List.{flat_map, range_with_len}
use Rattle.cx_look_storage.specs.Bytes.{row_line}
use Rattle.cx_look_storage.proofs.bytes.row_lines.Given as goal

abbrev pub invariant-loop-k : goal.invariant-loop-k
invariant-loop-k l = l.report ≡ l.initial.report ++ flat_map (row_line l.at l.bytes) (range_with_len 0 l.k)
