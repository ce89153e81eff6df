use Rattle.std.proofs.Common.{◌≡◌, ◌≤◌, ◌++◌}
use Rattle.cx_asm_expressions.specs.Kinds.{half_bytes}
use Rattle.cx_asm_expressions.proofs.bytes.half_bytes.Given as goal

abbrev pub invariant-loop-left : goal.invariant-loop-left
invariant-loop-left l = record {
  below : l.left ≤ l.n;
  goes_on : l.found.items ++ half_bytes l.kind l.value l.left ≡ half_bytes l.kind l.value l.n;
}

abbrev pub decreases-loop-left : goal.decreases-loop-left
decreases-loop-left l = l.left
