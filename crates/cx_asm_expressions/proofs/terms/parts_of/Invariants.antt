use Rattle.std.proofs.Common.{◌≡◌, ◌≤◌, ◌++◌, drop, length}
use Rattle.std.specs.List.{slice_range}
use Rattle.cx_asm_expressions.specs.Terms.{parts_of, expression_parts_from}
use Rattle.cx_asm_expressions.proofs.terms.parts_of.Given as goal

abbrev pub invariant-loop-i : goal.invariant-loop-i
invariant-loop-i l =
    record {
      begun : l.start ≤ l.i;
      level : length l.outs.items ≡ length l.text;
      goes_on : l.found.items ++ expression_parts_from l.sign (slice_range l.text l.start l.i) (drop l.i l.text) (drop l.i l.outs.items)
          ≡ parts_of l.text;
    }
