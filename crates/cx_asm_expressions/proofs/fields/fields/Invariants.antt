use Rattle.std.proofs.Common.{◌≡◌, ◌≤◌, ◌++◌, drop, map}
use Rattle.std.specs.List.{slice_range}
use Rattle.cx_asm_expressions.specs.Fields.{fields}
use Rattle.cx_asm_expressions.proofs.FieldLemmas.{fields_from}
use Rattle.cx_asm_expressions.proofs.fields.fields.Given as goal

abbrev pub invariant-loop-i : goal.invariant-loop-i
invariant-loop-i l =
    record {
      begun : l.start ≤ l.i;
      goes_on : map (λ field. field.now) l.found.items ++ fields_from (slice_range l.body l.start l.i) (drop l.i l.body) ≡ fields l.body;
    }
