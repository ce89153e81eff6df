use Rattle.std.proofs.Common.{◌≡◌, ◌++◌, drop}
use Rattle.std.specs.Prelude.{filter, nat_lt}
use Rattle.cx_look_faults.specs.Spans.{spans_from}
use Rattle.cx_look_faults.proofs.spans.spans_between.Given as goal

abbrev pub invariant-loop-i : goal.invariant-loop-i
invariant-loop-i l =
    l.spans.items ++ filter (λ part. nat_lt part.start part.end) (spans_from l.start l.i (drop l.i l.cells)) ≡ filter (λ part. nat_lt part.start part.end) (spans_from 0 0 l.cells)
