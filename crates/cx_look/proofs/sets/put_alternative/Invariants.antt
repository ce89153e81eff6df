use Rattle.std.proofs.Common.{◌≡◌, ◌<◌, ◌++◌, [], drop, get_or, length}
use Rattle.cx_look.specs.Sets.{alternative_texts}
use Rattle.cx_look.proofs.sets.put_alternative.Given as goal

abbrev pub invariant-loop-c : goal.invariant-loop-c
invariant-loop-c l = record {
  count : l.count ≡ length (alternative_texts (drop l.c-index l.text));
  number : l.number < l.count;
  put : l.line.items ++ get_or (alternative_texts (drop l.c-index l.text)) l.number []
      ≡ l.fn.line.items ++ get_or (alternative_texts l.text) l.fn.number [];
}
