use Rattle.std.proofs.Common.{◌≡◌, ◌+◌, drop, true}
use Rattle.std.specs.List.{prefix_len}
use Rattle.cx_source.specs.Statements.{is_continued}
use Rattle.cx_look_faults.proofs.positions.continued_count.Given as goal

abbrev pub invariant-loop-i : goal.invariant-loop-i
invariant-loop-i l = l.i + prefix_len (λ it. is_continued true it.text) (drop l.i l.items) ≡ prefix_len (λ it. is_continued true it.text) l.items
