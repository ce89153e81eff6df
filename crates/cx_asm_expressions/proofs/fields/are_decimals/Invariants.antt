use Rattle.std.proofs.Common.{◌≡◌, ◌≤◌, drop}
use Rattle.std.specs.List.{list_all, slice_range}
use Rattle.cx_asm_expressions.specs.Fields.{fields, is_decimal}
use Rattle.cx_asm_expressions.proofs.FieldLemmas.{fields_from}
use Rattle.cx_asm_expressions.proofs.fields.are_decimals.Given as goal

abbrev pub invariant-loop-i : goal.invariant-loop-i
invariant-loop-i l =
    record {
      begun : l.start ≤ l.i;
      goes_on : list_all is_decimal (fields_from (slice_range l.body l.start l.i) (drop l.i l.body)) ≡ list_all is_decimal (fields l.body);
    }
