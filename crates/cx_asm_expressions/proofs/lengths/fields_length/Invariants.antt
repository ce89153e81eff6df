use Rattle.std.proofs.Common.{◌≡◌, ◌≤◌, ◌+◌, ◌*◌, drop}
use Rattle.std.specs.Prelude.{sum_by}
use Rattle.std.specs.List.{slice_range}
use Rattle.cx_asm_expressions.specs.Fields.{fields}
use Rattle.cx_asm_expressions.proofs.FieldLemmas.{fields_from}
use Rattle.cx_asm_expressions.specs.Items.{value_length}
use Rattle.cx_asm_expressions.proofs.lengths.fields_length.Given as goal

abbrev pub invariant-loop-i : goal.invariant-loop-i
invariant-loop-i l =
    record {
      begun : l.start ≤ l.i;
      small : l.total ≤ 65537 * l.start;
      goes_on : l.total + sum_by (value_length l.kind l.modifier) (fields_from (slice_range l.body l.start l.i) (drop l.i l.body))
          ≡ sum_by (value_length l.kind l.modifier) (fields l.body);
    }
