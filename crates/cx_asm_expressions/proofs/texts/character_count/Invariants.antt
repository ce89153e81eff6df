use Rattle.std.proofs.Common.{◌≡◌, ◌≤◌, ◌+◌, drop, length}
use Rattle.cx_asm_expressions.specs.Texts.{single, characters}
use Rattle.cx_asm_expressions.proofs.texts.character_count.Given as goal

abbrev pub invariant-loop-c : goal.invariant-loop-c
invariant-loop-c l =
    record {
      small : l.count ≤ l.c-index;
      goes_on : l.count + length (single l.opened (drop l.c-index l.body)) ≡ length (characters l.body);
    }
